use Rattle.std.proofs.Common.{◌<◌, ℕ, slice_index_or}
use Rattle.legal_steps.specs.Legal.{HasNeededAt}
use Rattle.edge_rule.specs.DeskView.{known}
use Rattle.drinking_layer.proofs.drinks.has_needed.Given as goal

abbrev pub invariant-loop-edge : goal.invariant-loop-edge
invariant-loop-edge g l = (k : ℕ) → k < l.edge-index → HasNeededAt l.desk.plan (known l.desk) l.desk.job (slice_index_or l.own k 0)
