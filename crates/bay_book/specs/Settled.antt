-- For readers: which asks a book has to look at when it tells somebody, or lets go of those that are done.
use Rattle.std.specs.Prelude.{◌≡◌, ℕ, ◌<◌, ◌≤◌, Bool, true, false, List, length}
use Rattle.bay_book.specs.declared.ask.Ask.{Ask}
use Rattle.bay_book.specs.declared.ask.Heard.{Heard}
use Rattle.bay_book.specs.declared.ask.Heard.TheVariants.{Nothing, Holds as HeardHolds, End as HeardEnd}
use Rattle.bay_book.specs.declared.ask.Stage.{Stage}
use Rattle.bay_book.specs.declared.ask.Stage.TheVariants.{Waits, Holds, Over}
use Rattle.bay_book.specs.Asks.{ask_at}

-- it waits, or it holds and was told so: there is nothing to tell it, and it isn't done
abbrev pub is_settled_at : Stage → Heard → Bool
is_settled_at Waits heard = true
is_settled_at Holds Nothing = false
is_settled_at Holds HeardHolds = true
is_settled_at Holds HeardEnd = true
is_settled_at (Over how) heard = false

abbrev pub is_settled : Ask → Bool
is_settled a = is_settled_at a.stage a.heard

-- all that aren't settled stand from this place on, and before that one
pub record AreWithin (asks : List Ask) (from to : ℕ) : Type 0 where
  pub few : to ≤ length asks
  pub within : (j : ℕ) → j < length asks → is_settled (ask_at asks j) ≡ false → (from ≤ j) × (j < to)
