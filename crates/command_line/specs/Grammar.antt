-- For readers: how the words of a command line are read.
use Rattle.std.specs.Prelude.{◌||◌, ℕ, Bool, false, List, [], ◌∷◌, Option, Some, None, option_map, codes, if◌then◌else◌}
use Rattle.std.specs.Str.{bytes_eq}
use Rattle.std.specs.Str.Parse.{digits_value, without_leading_plus}
use Rattle.clap.specs.ValueTests.{is_unsigned_in}

-- the values that stand after a word: the first `--` says that no flag follows, and is none of them
unfoldable pub values_given : List (List ℕ) → List (List ℕ)
values_given [] = []
values_given (word ∷ rest) = if bytes_eq word (codes "--") then rest else word ∷ values_given rest

-- the number that a value spells, within these bounds: digits, and one `+` may stand before them; zeros may lead
unfoldable pub number_within : ℕ → ℕ → List ℕ → Option ℕ
number_within least most text = if is_unsigned_in least most text then Some (digits_value 10 (without_leading_plus text)) else None

-- what a word without values asks for
abbrev pub alone : {T : Type 0} → T → List (List ℕ) → Option T
alone task [] = Some task
alone task _ = None

-- what a word with one number asks for
abbrev pub with_number : {T : Type 0} → (ℕ → T) → ℕ → ℕ → List (List ℕ) → Option T
with_number task least most (number ∷ []) = option_map task (number_within least most number)
with_number task least most _ = None

-- what a word with two numbers asks for
abbrev pub both_given : {T : Type 0} → (ℕ → ℕ → T) → Option ℕ → Option ℕ → Option T
both_given task (Some first) (Some second) = Some (task first second)
both_given task _ _ = None

abbrev pub with_numbers : {T : Type 0} → (ℕ → ℕ → T) → ℕ → ℕ → ℕ → ℕ → List (List ℕ) → Option T
with_numbers task few many least most (first ∷ second ∷ []) = both_given task (number_within few many first) (number_within least most second)
with_numbers task few many least most _ = None

-- the first word after the program's own name asks for help, whatever follows
abbrev pub asks_for_help : List (List ℕ) → Bool
asks_for_help (name ∷ word ∷ rest) = bytes_eq word (codes "--help") || bytes_eq word (codes "-h")
asks_for_help _ = false
