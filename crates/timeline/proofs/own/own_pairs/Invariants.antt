-- the pairs of the slots so far
use Rattle.timeline.proofs.OwnPairs.{OwnBelow}
use Rattle.timeline.proofs.own.own_pairs.Given as goal

abbrev pub invariant-loop-slot : goal.invariant-loop-slot
invariant-loop-slot g l = OwnBelow l.used.items l.slot l.pairs.items
