use Rattle.std.proofs.Common.{◌≡◌, length, take}
use Rattle.lab_plan.specs.PairTables.{AreNumbers}
use Rattle.lab_plan.proofs.edge_table.number_pairs.Given as goal

abbrev pub invariant-loop-e : goal.invariant-loop-e
invariant-loop-e g l = record {
  length : length l.numbers.items ≡ 1024;
  numbers : AreNumbers (take l.e l.pairs) l.numbers.items;
}
