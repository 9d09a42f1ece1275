use Rattle.std.proofs.Common.{arith}
use Rattle.measured_orders.proofs.PutBack.{put_back}
use Rattle.measured_orders.proofs.moves.move_one.Goals as goal

pub returns : goal.returns
returns g c =
    put_back c.args.order.now.items c.remove-job.new.self.items c.insert.new.self.items c.below-from.result c.if-place-from.to c.remove-job.result
    (omega (arith, c.below-from.ensures, c.len-jobs.ensures)) c.remove-job.ensures.value c.remove-job.ensures.items c.in_ok-insert.ensures.items
