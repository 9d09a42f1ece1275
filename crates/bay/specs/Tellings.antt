-- For readers: what is told next.
use Rattle.std.specs.Prelude.{◌≡◌, ◌⊎◌, ℕ, ◌+◌, Bool, false, not, ◌==◌, Option, Some, None}
use Rattle.bay_book.specs.Asks.{ask_at}
use Rattle.bay_book.specs.Telling.{IsNextToTell}
use Rattle.bay_book.specs.Books.{BookView, heard, purge}
use Rattle.bay.specs.declared.telling.Told.{Told}

-- it was told, and isn't done yet
abbrev pub is_still_told : ℕ → Option Told → Bool
is_still_told done None = false
is_still_told done (Some t) = not (t.serial == done)

-- the one at this place is told this, with this serial number
pub record TellsThis (place serial : ℕ) (t : Told) (old new : BookView) : Type 0 where
  pub next : IsNextToTell old.asks old.durable (Some (place, t.outcome))
  pub number : t.number ≡ (ask_at old.asks place).number
  pub needs : t.needs ≡ (ask_at old.asks place).needs
  pub token : t.token ≡ (ask_at old.asks place).token
  pub serial_is : t.serial ≡ serial
  pub then : new ≡ heard old place t.outcome

-- one is; or there is nothing to tell
abbrev pub TellsOne : ℕ → BookView → Option Told → BookView → Type 0
TellsOne serial old (Some t) new = (place : ℕ) × TellsThis place serial t old new
TellsOne serial old None new = IsNextToTell old.asks old.durable None × (new ≡ old)

-- One is told, with the next serial number. Or there is nothing to tell, or the last serial number was given; and those that are done aren't in the book any
-- more
abbrev pub TellsNext : ℕ → BookView → Option Told × ℕ → BookView → Type 0
TellsNext serial old (Some t, s) new = TellsOne (serial + 1) old (Some t) new × (s ≡ serial + 1)
TellsNext serial old (None, s) new =
    (IsNextToTell old.asks old.durable None ⊎ (serial ≡ 18446744073709551615)) × (new ≡ purge old) × (s ≡ serial)
