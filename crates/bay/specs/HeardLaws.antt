-- For readers: that each ask is told once that it holds.
use Rattle.std.specs.Prelude.{◌≡◌, ◌⊎◌, ℕ, ◌<◌, ◌≤◌, false, List, length, Some}
use Rattle.bay_book.specs.declared.ask.Ask.{Ask}
use Rattle.bay_book.specs.declared.ask.Heard.TheVariants.{Nothing}
use Rattle.bay_book.specs.declared.ask.Outcome.TheVariants.{Holds as ToldHolds}
use Rattle.bay_book.specs.Asks.{ask_at, heard_of}
use Rattle.bay.specs.declared.telling.Told.{Told}
use Rattle.bay.specs.Members.{Has}
use Rattle.bay.specs.Tellings.{is_still_told}
use Rattle.bay.specs.Views.{RoomView}
use Rattle.bay.specs.Rooms.{Stops, Tells}
use Rattle.bay.specs.LineLaws.{IsCall}

-- the ask has the number of one that was in the book, and heard as much
abbrev pub WasHeard : List Ask → Ask → Type 0
WasHeard asks b = (a : Ask) × Has asks a × (a.number ≡ b.number) × (a.heard ≡ b.heard)

-- each ask heard as much as before; or it is new, and heard nothing
abbrev pub HeardAsBefore : RoomView → RoomView → Type 0
HeardAsBefore old new = (b : Ask) → Has new.book.asks b → WasHeard old.book.asks b ⊎ ((old.book.next ≤ b.number) × (b.heard ≡ Nothing))

-- One was told this: that it holds, only if it heard nothing before; and each other heard as much as before
pub record HearsThis (t : Told) (old new : RoomView) : Type 0 where
  pub place : ℕ
  pub inside : place < length old.book.asks
  pub its : (ask_at old.book.asks place).number ≡ t.number
  pub first : t.outcome ≡ ToldHolds → (ask_at old.book.asks place).heard ≡ Nothing
  pub after : (b : Ask) → Has new.book.asks b → ((b.number ≡ t.number) × (b.heard ≡ heard_of t.outcome)) ⊎ WasHeard old.book.asks b

-- So each is told at most once that it holds: only one that heard nothing is; from then on it heard that; and no call takes that back
pub record TellsOnce : Type 0 where
  pub calls : (old new : RoomView) (now : ℕ) → IsCall now old new ⊎ Stops now old new → HeardAsBefore old new
  pub tells :
      (old new : RoomView) (done : ℕ) (t : Told) → is_still_told done old.telling ≡ false → Tells done old (Some t) new → HearsThis t old new
