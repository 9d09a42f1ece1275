-- For readers: what is found in the book.
use Rattle.std.specs.Prelude.{◌≡◌, ℕ, ◌<◌, ◌≤◌, Bool, true, false, List, length, IfSome, Option, None, Some, IsBitSet, ◌↔◌}
use Rattle.bay_book.specs.declared.ask.Ask.{Ask}
use Rattle.bay_book.specs.declared.ask.End.{End}
use Rattle.bay_book.specs.Asks.{ask_at, is_holding}
use Rattle.bay_book.specs.Moments.{common, is_late, late_end}

-- the place of the ask with this number, and no other has it; or none has it
pub record IsPlaceOf (asks : List Ask) (number : ℕ) (place : Option ℕ) : Type 0 where
  pub found : IfSome place (λ j. (j < length asks) × ((ask_at asks j).number ≡ number))
  pub only : (j : ℕ) → j < length asks → (ask_at asks j).number ≡ number → place ≡ Some j

-- the first of which the test is true; or it is true of none
abbrev pub IsFirst : (Ask → Bool) → List Ask → Option ℕ → Type 0
IsFirst p asks (Some j) = (j < length asks) × (p (ask_at asks j) ≡ true) × ((i : ℕ) → i < j → p (ask_at asks i) ≡ false)
IsFirst p asks None = (i : ℕ) → i < length asks → p (ask_at asks i) ≡ false

-- the first whose time is over, and how it ends; or nobody's is
abbrev pub IsFirstLate : ℕ → ℕ → Option ℕ → List Ask → Option (ℕ × End) → Type 0
IsFirstLate now durable disk asks (Some t) = IsFirst (is_late now durable disk) asks (Some t.0) × (t.1 ≡ late_end (ask_at asks t.0).stage)
IsFirstLate now durable disk asks None = IsFirst (is_late now durable disk) asks None

-- the least moment of all; or there is none
abbrev pub IsLeast : (Ask → Option ℕ) → List Ask → Option ℕ → Type 0
IsLeast f asks (Some m) =
    ((j : ℕ) × (j < length asks) × (f (ask_at asks j) ≡ Some m)) × ((i n : ℕ) → i < length asks → f (ask_at asks i) ≡ Some n → m ≤ n)
IsLeast f asks None = (i : ℕ) → i < length asks → f (ask_at asks i) ≡ None

-- ask j holds, and what is true of its instruments
pub record HoldsWith (asks : List Ask) (j : ℕ) (P : ℕ → Type 0) : Type 0 where
  pub inside : j < length asks
  pub holds : is_holding (ask_at asks j).stage ≡ true
  pub has : P (ask_at asks j).needs

-- The set has just the instruments of those that hold
pub record IsInUse (asks : List Ask) (set : ℕ) : Type 0 where
  pub bits : (i : ℕ) → IsBitSet set i ↔ ((j : ℕ) × HoldsWith asks j (λ needs. IsBitSet needs i))
  -- what has nothing in common with it has nothing in common with what anyone holds
  pub apart : (x : ℕ) → common x set ≡ false → (j : ℕ) → j < length asks → is_holding (ask_at asks j).stage ≡ true → common x (ask_at asks j).needs ≡ false
  -- and what has something in common with it has so with what somebody holds
  pub why : (x : ℕ) → common x set ≡ true → (j : ℕ) × HoldsWith asks j (λ needs. common x needs ≡ true)
