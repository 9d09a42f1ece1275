use Rattle.std.proofs.Common.{◌<◌, ℕ}
use Rattle.legal_steps.specs.State.{Has}
use Rattle.legal_steps.specs.Legal.{Needs, instrument_of}
use Rattle.refused_steps.proofs.marks.missing_at.Given as goal

abbrev pub invariant-loop-bottle : goal.invariant-loop-bottle
invariant-loop-bottle g l = (k : ℕ) → k < l.bottle → Needs l.world.plan l.world.state l.job (instrument_of l.world.plan l.edge k) → Has l.marks k
