use Rattle.std.proofs.Common.{◌≡◌, false}
use Rattle.std.specs.List.{list_any, range_with_len}
use Rattle.lab_plan.specs.InstrumentSets.{both_in}
use Rattle.lab_plan.proofs.instrument_set.InstrumentSet.meets.Given as goal

abbrev pub invariant-loop-i : goal.invariant-loop-i
invariant-loop-i l = list_any (both_in l.self l.other) (range_with_len 0 l.i) ≡ false
