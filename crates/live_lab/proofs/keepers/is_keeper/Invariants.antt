-- no edge so far has such a bottle
use Rattle.std.proofs.Common.{ℕ, ◌<◌, slice_index_or}
use Rattle.live_lab.specs.Keepers.{IsKeptAt}
use Rattle.live_lab.proofs.keepers.is_keeper.Given as goal

abbrev pub invariant-loop-edge : goal.invariant-loop-edge
invariant-loop-edge g l = (k : ℕ) → k < l.edge-index → ¬ IsKeptAt l.world.plan l.world.state l.job l.instrument l.other (slice_index_or l.own k 0)
