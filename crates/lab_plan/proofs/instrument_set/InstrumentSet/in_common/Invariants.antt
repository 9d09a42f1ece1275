use Rattle.std.proofs.Common.{◌≡◌, ◌≤◌, length, filter}
use Rattle.std.specs.List.{range_with_len}
use Rattle.lab_plan.specs.InstrumentSets.{both_in}
use Rattle.lab_plan.proofs.instrument_set.InstrumentSet.in_common.Given as goal

abbrev pub invariant-loop-i : goal.invariant-loop-i
invariant-loop-i l = record {
  counted : l.count ≡ length (filter (both_in l.self l.other) (range_with_len 0 l.i));
  few : l.count ≤ l.i;
}
