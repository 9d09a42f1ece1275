use Rattle.settling.proofs.Rested.{EdgesSoFar}
use Rattle.settling.proofs.resting.attend_all.Given as goal

abbrev pub invariant-loop-index : goal.invariant-loop-index
invariant-loop-index g l = EdgesSoFar l.fn.world l.fn.due l.job l.index l.done l.world l.due
