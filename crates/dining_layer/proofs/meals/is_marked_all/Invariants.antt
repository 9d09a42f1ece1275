use Rattle.std.proofs.Common.{◌≡◌, ◌<◌, ℕ, slice_index_or, true}
use Rattle.legal_steps.specs.State.{fork_mark}
use Rattle.edge_rule.specs.DeskView.{known}
use Rattle.dining_layer.proofs.meals.is_marked_all.Given as goal

abbrev pub invariant-loop-edge : goal.invariant-loop-edge
invariant-loop-edge g l = (k : ℕ) → k < l.edge-index → fork_mark (known l.desk) l.desk.job (slice_index_or l.own k 0) ≡ true
