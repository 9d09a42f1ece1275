-- no bottle so far is so
use Rattle.std.proofs.Common.{ℕ, ◌<◌}
use Rattle.live_lab.specs.Keepers.{IsKept}
use Rattle.live_lab.proofs.keepers.is_kept_at.Given as goal

abbrev pub invariant-loop-bottle : goal.invariant-loop-bottle
invariant-loop-bottle g l = (k : ℕ) → k < l.bottle → ¬ IsKept l.world.plan l.world.state l.job l.instrument l.other l.edge k
