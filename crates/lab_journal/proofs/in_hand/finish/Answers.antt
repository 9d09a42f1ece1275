use Rattle.std.proofs.Common.{◌+◌, arith}
use Rattle.lab_journal.proofs.Finished.{both_finished, one_more}
use Rattle.lab_journal.proofs.in_hand.finish.Goals as goal

pub loop-job-preserved : goal.loop-job-preserved
loop-job-preserved g c = (
  both_finished c.loop-job.job 1 (c.loop-job.job + 1) c.args.world.now c.loop-job.world c.finish_of.new.world (omega arith) c.loop-job.invariant.0 c.finish_of.ensures.goes,
  one_more c.loop-job.job c.loop-job.world.state c.finish_of.new.world.state c.loop-job.invariant.1 c.finish_of.ensures.none c.finish_of.ensures.others,
)
