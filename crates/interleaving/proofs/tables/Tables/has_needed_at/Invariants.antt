use Rattle.std.proofs.Common.{◌<◌, ℕ}
use Rattle.legal_steps.specs.State.{Has}
use Rattle.legal_steps.specs.Legal.{Needs, instrument_of}
use Rattle.interleaving.proofs.tables.Tables.has_needed_at.Given as goal

abbrev pub invariant-loop-bottle : goal.invariant-loop-bottle
invariant-loop-bottle g l = (k : ℕ) → k < l.bottle → Needs l.self.plan l.self.state l.fn.job (instrument_of l.self.plan l.fn.edge k) → Has l.marks k
