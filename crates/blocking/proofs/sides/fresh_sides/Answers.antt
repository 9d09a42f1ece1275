use Rattle.blocking.specs.Owing.{sides_of}
use Rattle.blocking.proofs.Placing.{numbers_more}
use Rattle.blocking.proofs.sides.fresh_sides.Goals as goal

pub loop-job-preserved : goal.loop-job-preserved
loop-job-preserved g c =
    numbers_more (sides_of c.args.plan.now) c.loop-job.sides.items c.add_sides.new.out.items c.loop-job.job c.loop-job.invariant c.in_ok-add_sides.ensures
