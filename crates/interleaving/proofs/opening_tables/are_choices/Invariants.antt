use Rattle.std.proofs.Common.{ℕ, ◌<◌, slice_index_or}
use Rattle.legal_steps.specs.declared.edge_state.EndChoice.{EndChoice}
use Rattle.legal_steps.specs.State.{IsOfEdge}
use Rattle.interleaving.proofs.opening_tables.are_choices.Given as goal

abbrev pub invariant-loop-edge : goal.invariant-loop-edge
invariant-loop-edge g l = (k : ℕ) (d : EndChoice) → k < l.edge → IsOfEdge l.plan k (slice_index_or l.choices k d).bottles
