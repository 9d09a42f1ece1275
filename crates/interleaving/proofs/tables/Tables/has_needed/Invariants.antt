use Rattle.std.proofs.Common.{◌<◌, ℕ, slice_index_or}
use Rattle.legal_steps.specs.Legal.{HasNeededAt}
use Rattle.interleaving.proofs.tables.Tables.has_needed.Given as goal

abbrev pub invariant-loop-edge : goal.invariant-loop-edge
invariant-loop-edge g l = (k : ℕ) → k < l.edge-index → HasNeededAt l.self.plan l.self.state l.job (slice_index_or l.own k 0)
