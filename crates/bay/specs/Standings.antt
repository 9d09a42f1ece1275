-- For readers: where the ask with a number stands, and how far it is.
use Rattle.std.specs.Prelude.{◌≡◌, ◌≢◌, ◌⊎◌, ℕ, ◌<◌, List, length, Option, Some, None}
use Rattle.bay_book.specs.declared.ask.Ask.{Ask}
use Rattle.bay_book.specs.declared.ask.Heard.TheVariants.{Holds as HeardHolds}
use Rattle.bay_book.specs.declared.ask.Stage.{Stage}
use Rattle.bay_book.specs.declared.ask.Stage.TheVariants.{Waits, Holds}
use Rattle.bay_book.specs.Asks.{ask_at}
use Rattle.bay_book.specs.Finding.{IsPlaceOf}
use Rattle.bay_book.specs.Books.{BookView, set_gone, is_back}
use Rattle.bay.specs.declared.place.Place.{Place}
use Rattle.bay.specs.declared.place.Place.TheVariants.{Over as IsOver, Waits as IsWaiting, Holds as IsHolding}

-- the ask with this number stands at this place, and is so far
pub record StandsAt (asks : List Ask) (number place : ℕ) (stage : Stage) : Type 0 where
  pub inside : place < length asks
  pub its : (ask_at asks place).number ≡ number
  pub is : (ask_at asks place).stage ≡ stage

-- no ask with this number waits or holds
abbrev pub IsGone : List Ask → ℕ → Type 0
IsGone asks number = (place : ℕ) (stage : Stage) → StandsAt asks number place stage → (stage ≡ Waits) ⊎ (stage ≡ Holds) → ⊥

abbrev pub IsStandingAt : Stage → ℕ → Place → Type 0
IsStandingAt stage place (IsWaiting p) = (p ≡ place) × (stage ≡ Waits)
IsStandingAt stage place (IsHolding p) = (p ≡ place) × (stage ≡ Holds)
IsStandingAt stage place IsOver = (stage ≡ Waits) ⊎ (stage ≡ Holds) → ⊥

abbrev pub IsStanding : List Ask → ℕ → Place → Type 0
IsStanding asks number (IsWaiting place) = StandsAt asks number place Waits
IsStanding asks number (IsHolding place) = StandsAt asks number place Holds
IsStanding asks number IsOver = IsGone asks number

-- the ask with this number holds, and was told so
abbrev pub HoldsTold : List Ask → ℕ → Type 0
HoldsTold asks number = (place : ℕ) × StandsAt asks number place Holds × ((ask_at asks place).heard ≡ HeardHolds)

-- its client is gone since this moment; or it isn't in the book
abbrev pub MarksGone : ℕ → ℕ → BookView → BookView → Type 0
MarksGone number moment old new =
    ((place : ℕ) × IsPlaceOf old.asks number (Some place) × (new ≡ set_gone old place moment)) ⊎ (IsPlaceOf old.asks number None × (new ≡ old))

-- it isn't over, and is this owner's: its client is there again; or it is over, or another's, or nobody's
abbrev pub MarksBack : ℕ → ℕ → BookView → Option ℕ → BookView → Type 0
MarksBack number owner old (Some needs) new =
    (place : ℕ) × (stage : Stage) × StandsAt old.asks number place stage × ((stage ≡ Waits) ⊎ (stage ≡ Holds))
    × ((ask_at old.asks place).owner ≡ owner) × ((ask_at old.asks place).needs ≡ needs) × (new ≡ is_back old place)
    × (owner ≢ 0)
MarksBack number owner old None new =
    (new ≡ old)
    × (IsGone old.asks number ⊎ ((place : ℕ) × (stage : Stage) × StandsAt old.asks number place stage × ((ask_at old.asks place).owner ≢ owner)) ⊎ (owner ≡ 0))
