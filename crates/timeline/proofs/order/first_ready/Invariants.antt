-- each of the first that is left is behind
use Rattle.std.proofs.Common.{ℕ, ◌<◌}
use Rattle.timeline.specs.Orders.{IsOpen}
use Rattle.timeline.proofs.order.first_ready.Given as goal

abbrev pub invariant-loop-slot : goal.invariant-loop-slot
invariant-loop-slot l = (k : ℕ) → k < l.slot → IsOpen l.left k → IsOpen l.behind k
