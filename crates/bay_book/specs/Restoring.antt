-- For readers: who may hold again.
use Rattle.std.specs.Prelude.{◌≡◌, ◌⊎◌, ℕ, ◌<◌, ◌≤◌, ◌==◌, nat_le, Bool, true, false, ◌||◌, List, length}
use Rattle.bay_book.specs.declared.ask.Ask.{Ask}
use Rattle.bay_book.specs.declared.restoring.NotRestored.{NotRestored}
use Rattle.bay_book.specs.declared.restoring.NotRestored.TheVariants.{NoMemory, MayNot}
use Rattle.bay_book.specs.Asks.{ask_at, is_waiting}

-- the ask speaks against one with this number and this token: its own number is no smaller; or it waits; or it has that token
abbrev pub is_against : ℕ → ℕ → Ask → Bool
is_against number token a = nat_le number a.number || is_waiting a || a.token == token

-- it hasn't the last of all numbers; it has a token; and no ask speaks against it
pub record MayBeRestored (asks : List Ask) (number token : ℕ) : Type 0 where
  pub room : number < 18446744073709551615
  pub some : 1 ≤ token
  pub nobody : (j : ℕ) → j < length asks → is_against number token (ask_at asks j) ≡ false

abbrev pub MayNotBeRestored : List Ask → ℕ → ℕ → Type 0
MayNotBeRestored asks number token =
    (number ≡ 18446744073709551615) ⊎ (token ≡ 0) ⊎ ((j : ℕ) × (j < length asks) × (is_against number token (ask_at asks j) ≡ true))

-- it may, and there is no memory; or it may not
abbrev pub IsWhyNotRestored : List Ask → ℕ → ℕ → NotRestored → Type 0
IsWhyNotRestored asks number token NoMemory = MayBeRestored asks number token
IsWhyNotRestored asks number token MayNot = MayNotBeRestored asks number token
