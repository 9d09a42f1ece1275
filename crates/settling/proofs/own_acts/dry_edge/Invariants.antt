use Rattle.std.proofs.Common.{◌<◌, ℕ, slice_index_or}
use Rattle.legal_steps.specs.Legal.{HasNeededAt}
use Rattle.settling.proofs.own_acts.dry_edge.Given as goal

abbrev pub invariant-loop-edge : goal.invariant-loop-edge
invariant-loop-edge g l = (k : ℕ) → k < l.edge-index → HasNeededAt l.world.plan l.world.state l.job (slice_index_or l.own k 0)
