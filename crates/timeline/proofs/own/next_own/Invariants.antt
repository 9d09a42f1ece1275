-- none so far is marked
use Rattle.timeline.proofs.OwnPairs.{NoneBetween}
use Rattle.timeline.proofs.own.next_own.Given as goal

abbrev pub invariant-loop-next : goal.invariant-loop-next
invariant-loop-next l = NoneBetween l.used l.slot l.next
