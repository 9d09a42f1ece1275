use Rattle.std.proofs.Common.{◌≡◌, filter}
use Rattle.std.specs.List.{range_with_len}
use Rattle.lab_plan.specs.InstrumentSets.{both_in}
use Rattle.lab_plan.proofs.bottles.Bottles.new.Given as goal

abbrev pub invariant-loop-i : goal.invariant-loop-i
invariant-loop-i g l = l.found.items ≡ filter (both_in l.first l.second) (range_with_len 0 l.i)
