-- those are marked that one of the pairs so far has behind another that is marked
use Rattle.timeline.specs.Orders.{AreBehindBelow}
use Rattle.timeline.proofs.behind.behind_open.Given as goal

abbrev pub invariant-loop-x : goal.invariant-loop-x
invariant-loop-x g l = AreBehindBelow l.pairs l.marks l.x-index l.behind.items
