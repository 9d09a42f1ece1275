use Rattle.std.proofs.Common.{◌≡◌, ◌<◌, ℕ, slice_index_or, true}
use Rattle.legal_steps.specs.State.{fork_mark}
use Rattle.settling.proofs.own_acts.bare_edge.Given as goal

abbrev pub invariant-loop-edge : goal.invariant-loop-edge
invariant-loop-edge g l = (k : ℕ) → k < l.edge-index → fork_mark l.world.state l.job (slice_index_or l.own k 0) ≡ true
