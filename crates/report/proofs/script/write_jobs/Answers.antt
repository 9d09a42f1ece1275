use Rattle.std.proofs.Common.{◌+◌, ◌<◌, length, arith, refl, ◌∙◌, ap}
use Rattle.lab_plan.specs.LabPlan.{no_job}
use Rattle.lab_plan.specs.Upgrade.{job_text}
use Rattle.report.proofs.Prefixes.{each_goes, each_stops, writes_err}
use Rattle.report.proofs.script.write_jobs.Goals as goal

pub returns-in_err-write_job : goal.returns-in_err-write_job
returns-in_err-write_job g c =
    let inside : c.loop-job.job < length c.args.plan.now.jobs = omega arith in
    writes_err _ _ _ _ _ _ c.from_residual.ensures.0
    (each_stops (job_text c.args.plan.now) c.args.plan.now.jobs c.loop-job.job no_job _ _ _ _ inside refl c.loop-job.invariant.0 c.in_err-write_job.ensures.0)
    (c.in_err-write_job.ensures.1 ∙ ap (λ n. n + 1) c.loop-job.invariant.1)

pub loop-job-preserved : goal.loop-job-preserved
loop-job-preserved g c =
    let inside : c.loop-job.job < length c.args.plan.now.jobs = omega arith in (
      each_goes (job_text c.args.plan.now) c.args.plan.now.jobs c.loop-job.job no_job _ _ _ _ inside refl c.loop-job.invariant.0 c.in_ok-write_job.ensures.0,
      c.in_ok-write_job.ensures.1 ∙ c.loop-job.invariant.1,
    )
