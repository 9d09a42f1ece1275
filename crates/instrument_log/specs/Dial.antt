-- For readers: the dial of an instrument, by the entries of its log.
use Rattle.std.specs.Prelude.{◌≡◌, ℕ, ◌+◌, ◌%◌, List, fold, take, slice_get, Some}
use Rattle.lab_plan.specs.declared.verb.Verb.{Verb}
use Rattle.lab_plan.specs.declared.verb.Verb.TheVariants.{Set, Add, Read}
use Rattle.instrument_log.specs.declared.entry.Entry.{Entry}

-- the dial after a command, from the dial before it
unfoldable pub turned : Verb → ℕ → ℕ
turned (Set number) value = number
turned (Add number) value = (value + number) % 1000000
turned Read value = value

-- the dial after all commands of a log: they turn it one after another, from 0
unfoldable pub dial : List Entry → ℕ
dial entries = fold (λ value entry. turned entry.verb value) 0 entries

-- each entry's value is the dial after its command, from the dial that the entries before it left
abbrev pub HasDialValues : List Entry → Type 0
HasDialValues entries = (k : ℕ) (entry : Entry) → slice_get entries k ≡ Some entry → entry.value ≡ turned entry.verb (dial (take k entries))
