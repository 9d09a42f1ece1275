use Rattle.std.proofs.Common.{◌<◌, ℕ, slice_index_or}
use Rattle.legal_steps.specs.Precedence.{PrecedesOn}
use Rattle.interleaving.proofs.tables.Tables.precedes.Given as goal

abbrev pub invariant-loop-edge : goal.invariant-loop-edge
invariant-loop-edge g l = (k : ℕ) → k < l.edge-index → ¬ PrecedesOn l.self.plan l.self.state (slice_index_or l.own k 0) l.a l.b
