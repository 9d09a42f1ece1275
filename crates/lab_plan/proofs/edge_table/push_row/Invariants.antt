use Rattle.std.proofs.Common.{◌≡◌, ◌++◌, filter}
use Rattle.lab_plan.specs.NamedBy.{meet, row}
use Rattle.lab_plan.proofs.edge_table.push_row.Given as goal

abbrev pub invariant-loop-high : goal.invariant-loop-high
invariant-loop-high g l = l.found.items ≡ l.initial.found.items ++ filter (meet l.naming.sets l.naming.instruments) (row l.low l.high)
