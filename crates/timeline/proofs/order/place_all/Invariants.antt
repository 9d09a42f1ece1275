use Rattle.std.specs.Prelude.{count_by}
use Rattle.timeline.specs.Orders.{Placed}
use Rattle.timeline.proofs.order.place_all.Given as goal

abbrev pub invariant-places : goal.invariant-places
invariant-places g l = Placed l.pairs l.left.items l.spans.items l.columns

abbrev pub decreases-places : goal.decreases-places
decreases-places g l = count_by (λ is_left. is_left) l.left.items
