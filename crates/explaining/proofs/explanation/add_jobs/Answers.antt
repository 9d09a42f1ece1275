use Rattle.std.proofs.Common.{◌<◌, ◌≤◌, length, arith, ap}
use Rattle.explaining.specs.StateTexts.{job_text}
use Rattle.explaining.specs.Explanations.{jobs_text}
use Rattle.explaining.proofs.Parts.{next_part, every_part}
use Rattle.explaining.proofs.explanation.add_jobs.Goals as goal

pub loop-job-preserved : goal.loop-job-preserved
loop-job-preserved g c =
    let w = c.args.world.now in
    let n = length w.plan.jobs in
    let small : c.loop-job.job < n = omega (arith, ap (λ p. length p.jobs) c.plan.ensures.plan) in
    next_part (job_text w.plan w.state) n c.loop-job.job _ _ _ small c.loop-job.invariant c.in_ok-add_job_state.ensures

pub returns : goal.returns
unfolding jobs_text
returns g c =
    let w = c.args.world.now in
    let n = length w.plan.jobs in
    let past : n ≤ c.loop-job.job = omega (arith, ap (λ p. length p.jobs) c.plan.ensures.plan) in
    every_part (job_text w.plan w.state) n c.loop-job.job _ _ past c.loop-job.invariant
