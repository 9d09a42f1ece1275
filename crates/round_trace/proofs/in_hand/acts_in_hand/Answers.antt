use Rattle.std.proofs.Common.{◌≡◌, length, sym, ap, ◌∙◌, subst, arith}
use Rattle.lab_plan.specs.LabPlan.{LabPlan}
use Rattle.legal_steps.proofs.ReachedLemmas.{reached_fits}
use Rattle.round_trace.specs.InHand.{acts_below, BringsToRest}
use Rattle.round_trace.proofs.InHand.{brings_to_rest}
use Rattle.round_trace.proofs.in_hand.acts_in_hand.Goals as goal

pub returns-clause-rests : goal.returns-clause-rests
returns-clause-rests g c =
    let w = c.args.world.now in
    let n = c.jobs-job-end.ensures.jobs in
    let same : length c.plan.result.now.jobs ≡ length w.plan.jobs = ap (λ (p : LabPlan). length p.jobs) c.plan.ensures.plan in
    let end = c.loop-job.auto.job-end in
    let all : c.loop-job.job ≡ length w.plan.jobs = let t = c.loop-job-test.false in omega arith in
    subst (BringsToRest w.plan w.state) (sym (c.loop-job.invariant ∙ ap (acts_below w.state) all))
    (brings_to_rest w.plan w.state (reached_fits w.plan w.state c.plan.ensures.reached.reached).seats_there)
