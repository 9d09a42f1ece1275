-- For readers: what a call took from a source, of which not all need be known.
use Rattle.std.specs.Prelude.{◌≡◌, ℕ, ◌≤◌, ◌<◌, List, ◌++◌, length, IfSome}
use Rattle.std.specs.declared.option.Option.{Option}
use Rattle.std.specs.Io.KnownBytes.{Consumes, IsAtEnd}

-- at most this many bytes were read
abbrev pub ConsumesUpTo : Option (List ℕ) → Option (List ℕ) → ℕ → Type 0
ConsumesUpTo old new most = (bytes : List ℕ) × (length bytes ≤ most) × Consumes old new bytes

-- the buffer grew by n bytes that the source gave, and by none only at its end
abbrev pub Grows : Option (List ℕ) → Option (List ℕ) → List ℕ → List ℕ → ℕ → Type 0
Grows old new before after n =
    (piece : List ℕ) × (length piece ≡ n) × (after ≡ before ++ piece) × Consumes old new piece × (n ≡ 0 → IsAtEnd new)

-- the input is all that the source had left, if it tells, and within the limit
pub record IsInput (left : Option (List ℕ)) (input : List ℕ) : Type 0 where
  pub whole : IfSome left (λ all. input ≡ all)
  pub within : length input ≤ 16777216

-- the source had more left than an input may have, if it tells
abbrev pub IsTooLong : Option (List ℕ) → Type 0
IsTooLong left = IfSome left (λ all. 16777216 < length all)
