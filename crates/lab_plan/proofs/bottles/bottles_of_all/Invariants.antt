use Rattle.std.proofs.Common.{◌≡◌, map, filter, take}
use Rattle.std.specs.List.{range_with_len}
use Rattle.lab_plan.specs.NamedBy.{both_hold}
use Rattle.lab_plan.proofs.bottles.bottles_of_all.Given as goal

abbrev pub invariant-loop-low : goal.invariant-loop-low
invariant-loop-low g l = l.all.items ≡ map (λ pair. filter (both_hold l.naming.sets pair) (range_with_len 0 l.naming.instruments)) (take l.low-index l.pairs)
