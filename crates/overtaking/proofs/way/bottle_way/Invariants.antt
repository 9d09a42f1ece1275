use Rattle.std.proofs.Common.{◌<◌, ℕ}
use Rattle.overtaking.specs.Ways.{HasNoBottleWayOf}
use Rattle.overtaking.proofs.way.bottle_way.Given as goal

abbrev pub invariant-loop-bottle : goal.invariant-loop-bottle
invariant-loop-bottle g l = (k : ℕ) → k < l.bottle → HasNoBottleWayOf l.world.plan l.world.state l.job l.edge k
