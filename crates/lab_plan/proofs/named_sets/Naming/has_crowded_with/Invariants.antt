use Rattle.std.proofs.Common.{◌≡◌, false}
use Rattle.std.specs.List.{list_any}
use Rattle.lab_plan.specs.NamedBy.{are_crowded, row}
use Rattle.lab_plan.proofs.named_sets.Naming.has_crowded_with.Given as goal

abbrev pub invariant-loop-high : goal.invariant-loop-high
invariant-loop-high l = list_any (are_crowded l.self.sets l.self.instruments) (row l.low l.high) ≡ false
