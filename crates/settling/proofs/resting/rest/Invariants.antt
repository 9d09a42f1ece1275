use Rattle.settling.proofs.Rested.{SoFar}
use Rattle.settling.proofs.resting.rest.Given as goal

abbrev pub invariant-loop-number : goal.invariant-loop-number
invariant-loop-number g l = SoFar l.fn.world l._number l.done l.world l.due
