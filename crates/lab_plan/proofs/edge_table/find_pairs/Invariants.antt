use Rattle.std.proofs.Common.{◌≡◌, filter}
use Rattle.lab_plan.specs.NamedBy.{meet, rows}
use Rattle.lab_plan.proofs.edge_table.find_pairs.Given as goal

abbrev pub invariant-loop-low : goal.invariant-loop-low
invariant-loop-low g l = l.found.items ≡ filter (meet l.naming.sets l.naming.instruments) (rows l.naming.jobs l.low)
