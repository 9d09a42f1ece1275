use Rattle.std.proofs.Common.{◌<◌, ℕ}
use Rattle.legal_steps.specs.State.{Has}
use Rattle.refused_steps.specs.BottleMoves.{MayMove}
use Rattle.refused_steps.proofs.bottle_moves.of_each.Given as goal

abbrev pub invariant-loop-bottle : goal.invariant-loop-bottle
invariant-loop-bottle g l = (k : ℕ) → k < l.bottle → Has l.set k → MayMove l.what l.world.plan l.world.state l.job l.edge k
