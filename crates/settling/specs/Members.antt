-- A set of jobs, a bit for each, as a list that says of each whether it is a member.
use Rattle.std.specs.Prelude.{ℕ, Bool, List, map}
use Rattle.std.specs.List.{range_with_len}
use Rattle.lab_plan.specs.InstrumentSets.{holds}

abbrev pub members : ℕ → ℕ → List Bool
members set n = map (holds set) (range_with_len 0 n)
