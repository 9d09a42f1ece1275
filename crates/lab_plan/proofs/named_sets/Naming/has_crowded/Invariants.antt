use Rattle.std.proofs.Common.{◌≡◌, false}
use Rattle.std.specs.List.{list_any}
use Rattle.lab_plan.specs.NamedBy.{are_crowded, rows}
use Rattle.lab_plan.proofs.named_sets.Naming.has_crowded.Given as goal

abbrev pub invariant-loop-low : goal.invariant-loop-low
invariant-loop-low l = list_any (are_crowded l.self.sets l.self.instruments) (rows l.self.jobs l.low) ≡ false
