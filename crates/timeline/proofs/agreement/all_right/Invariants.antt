-- of the pairs so far the second stands right of the first
use Rattle.timeline.proofs.OwnPairs.{RightBelow}
use Rattle.timeline.proofs.agreement.all_right.Given as goal

abbrev pub invariant-loop-x : goal.invariant-loop-x
invariant-loop-x l = RightBelow l.spans l.pairs l.x-index
