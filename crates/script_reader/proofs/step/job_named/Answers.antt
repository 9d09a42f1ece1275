use Rattle.std.proofs.Common.{◌<◌, arith, sym, ap, ◌∙◌, length}
use Rattle.std.specs.Str.{bytes_eq}
use Rattle.lab_plan.specs.LabPlan.{JobPlan, no_job}
use Rattle.script_reader.proofs.Places.{position_found, position_none}
use Rattle.script_reader.proofs.step.job_named.Goals as goal

pub returns-then-is_same_name : goal.returns-then-is_same_name
returns-then-is_same_name g c =
    let plan = c.args.plan.now in
    let name = c.args.name.now in
    let inside : c.loop-number.number < length plan.jobs = omega arith in
    let here = sym (ap (bytes_eq name) c.job_name.ensures.value) ∙ sym c.is_same_name.ensures ∙ c.if-is_same_name.true in
    (position_found (λ (job : JobPlan). bytes_eq name job.name) plan.jobs c.loop-number.number no_job inside c.loop-number.invariant here, inside)

pub returns : goal.returns
returns g c =
    let plan = c.args.plan.now in
    let name = c.args.name.now in
    position_none (λ (job : JobPlan). bytes_eq name job.name) plan.jobs no_job (λ k below. c.loop-number.invariant k (omega (arith, below)))
