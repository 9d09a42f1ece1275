use Rattle.lab_plan.proofs.Ranges.{range_more}
use Rattle.measured_orders.proofs.best.as_they_stand.Goals as goal

pub loop-job-preserved : goal.loop-job-preserved
loop-job-preserved g c = let more = range_more c.loop-job.job in cc (more, c.in_ok-push.ensures.items)
