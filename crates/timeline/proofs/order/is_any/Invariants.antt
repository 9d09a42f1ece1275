-- of the first none is left
use Rattle.std.proofs.Common.{ℕ, ◌<◌}
use Rattle.timeline.specs.Orders.{IsOpen}
use Rattle.timeline.proofs.order.is_any.Given as goal

abbrev pub invariant-loop-slot : goal.invariant-loop-slot
invariant-loop-slot l = (k : ℕ) → k < l.slot → ¬ IsOpen l.left k
