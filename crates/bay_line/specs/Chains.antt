-- For readers: why somebody waits, followed to its end.
use Rattle.std.specs.Prelude.{◌≡◌, ◌⊎◌, ℕ, zero, suc, ◌<◌, ◌≤◌, true, false, List, length, None}
use Rattle.bay_line.specs.declared.wish.Wish.{Wish}
use Rattle.bay_line.specs.Wishes.{wish_at, common, is_ready}
use Rattle.bay_line.specs.Turns.{KeepsFrom, IsBefore}
use Rattle.bay_line.specs.Lines.{IsChosen}

-- wish i holds up wish k: it goes before it, and keeps an instrument from it
pub record HoldsUp (most free : ℕ) (wishes : List Wish) (i k : ℕ) : Type 0 where
  pub before : IsBefore most free wishes i k
  pub keeps : KeepsFrom most free wishes i k
  pub shares : common (wish_at wishes k).needs (wish_at wishes i).needs ≡ true

-- from wish k so many steps to a wish of which an instrument is in use: at each step one wish is held up by the next
abbrev pub LeadsToUse : ℕ → ℕ → ℕ → List Wish → ℕ → ℕ → Type 0
LeadsToUse most in_use free wishes zero k = common (wish_at wishes k).needs in_use ≡ true
LeadsToUse most in_use free wishes (suc n) k = (i : ℕ) × HoldsUp most free wishes i k × LeadsToUse most in_use free wishes n i

-- why a wish waits, to the end: no place is free for it; or it leads to an instrument that is in use, in no more steps than there are wishes
abbrev pub HasWholeReason : ℕ → ℕ → ℕ → List Wish → ℕ → Type 0
HasWholeReason most in_use free wishes k =
    (is_ready free (wish_at wishes k) ≡ false) ⊎ ((n : ℕ) × (n ≤ length wishes) × LeadsToUse most in_use free wishes n k)

-- once nobody is let in any more, each reason to wait ends so
abbrev pub EachReasonEnds : Type 0
EachReasonEnds =
    (most in_use free : ℕ) (wishes : List Wish) → IsChosen most in_use free wishes None → (k : ℕ) → k < length wishes
    → HasWholeReason most in_use free wishes k
