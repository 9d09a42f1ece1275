use Rattle.waiting.specs.Text.{job_text}
use Rattle.waiting.proofs.Ranges.{one_more}
use Rattle.waiting.proofs.text.add_jobs.Goals as goal

pub loop-job-preserved : goal.loop-job-preserved
loop-job-preserved g c =
    one_more (job_text c.args.plan.now c.args.run.now) c.args.out.now.items c.loop-job.out.items c.add_job_of.new.out.items c.loop-job.job
    c.loop-job.invariant c.in_ok-add_job_of.ensures
