-- the best is the start, or the script in some order, and no worse than the start
use Rattle.measured_orders.specs.Orders.{IsClimbed, IsOrder}
use Rattle.measured_orders.proofs.climb.climbed.Given as goal

abbrev pub invariant-loop-try : goal.invariant-loop-try
invariant-loop-try g l = IsOrder l.plan l.from.items × IsClimbed l.plan l.limit l.script l.fn.start l.best
