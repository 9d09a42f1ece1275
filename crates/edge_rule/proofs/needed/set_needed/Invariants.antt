use Rattle.std.proofs.Common.{◌≡◌, ◌<◌, ℕ, length, slice_index_or}
use Rattle.lab_plan.specs.LabPlan.{edges}
use Rattle.edge_rule.specs.NeededBottles.{AreNeededIn}
use Rattle.edge_rule.proofs.needed.set_needed.Given as goal

abbrev pub invariant-loop-edge : goal.invariant-loop-edge
invariant-loop-edge g l = (length l.needed.items ≡ length (edges l.plan))
    × ((k : ℕ) → k < l.edge-index → AreNeededIn l.plan l.job l.phase (slice_index_or l.own k 0) (slice_index_or l.needed.items (slice_index_or l.own k 0) 0))
