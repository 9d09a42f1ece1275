use Rattle.arranging.proofs.Colourings.{IsOnItsWay, uncoloured}
use Rattle.arranging.proofs.greedy.by_saturation.Given as goal

abbrev pub invariant-loop-job : goal.invariant-loop-job
invariant-loop-job g l = IsOnItsWay l.plan l.colours.items l.count

abbrev pub decreases-loop-job : goal.decreases-loop-job
decreases-loop-job g l = uncoloured l.colours.items
