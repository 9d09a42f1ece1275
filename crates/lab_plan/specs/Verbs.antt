-- For readers: what a command does to an instrument's dial.
use Rattle.std.specs.Prelude.{ℕ, ◌≤◌}
use Rattle.lab_plan.specs.Limits.{largest_number}
use Rattle.lab_plan.specs.declared.verb.Verb.{Verb}
use Rattle.lab_plan.specs.declared.verb.Verb.TheVariants.{Set, Add, Read}

-- the number of a verb, 0 for a read
abbrev pub verb_number : Verb → ℕ
verb_number (Set n) = n
verb_number (Add n) = n
verb_number Read = 0

-- a dial has the numbers from 0 to the largest
abbrev pub Fits : Verb → Type 0
Fits verb = verb_number verb ≤ largest_number
