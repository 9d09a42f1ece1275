-- For readers: what holds of a bay that goes on in a new file, and with other classes.
use Rattle.std.specs.Prelude.{◌≡◌, ℕ, ◌≤◌, true, List, All}
use Rattle.bay_line.specs.Bounds.{Waits as LineWaits}
use Rattle.bay_book.specs.declared.ask.Ask.{Ask}
use Rattle.bay_book.specs.declared.ask.Stage.TheVariants.{Waits}
use Rattle.bay_log.specs.Alive.{alive}
use Rattle.bay.specs.declared.classes.Class.{Class}
use Rattle.bay.specs.Members.{Has}
use Rattle.bay.specs.Cores.{HoldsIn}
use Rattle.bay.specs.Laws.{HoldsOn, WaitsOn}
use Rattle.bay.specs.LineLaws.{HasWish}
use Rattle.bay.specs.HeardLaws.{HeardAsBefore}
use Rattle.bay.specs.Restoring.{IsOf, after_line}
use Rattle.bay.specs.Turning.{Turns}
use Rattle.bay.specs.Bays.{BayView, IsKept, IsWhole}

-- the ask is as it was, but for where the line ends that says that it holds
abbrev pub IsAsItWas : Ask → Ask → Type 0
IsAsItWas a b = b ≡ record a { hold_line = b.hold_line }

-- What was held stays held, and who waits goes on to wait, in the old order and as often passed: until its own time is over, or it is let in
pub record TurnsKeep : Type 0 where
  -- whoever holds goes on to hold what it held, as it was told it
  pub holds :
      (classes : List Class) (now : ℕ) (text : List ℕ) (old new : BayView) (a : Ask) → Turns classes now text old new → HoldsIn old.room.book a
      → (b : Ask) × IsAsItWas a b × HoldsOn classes old.room.terms new.room.moment new.room.book b
  pub waits :
      (classes : List Class) (now : ℕ) (text : List ℕ) (old new : BayView) (a : Ask) → Turns classes now text old new → Has old.room.book.asks a
      → a.stage ≡ Waits → WaitsOn classes old.room.terms new.room.moment new.room.book a
  -- it is a time in which others may be let in: so the line's laws say by how many an ask is passed meanwhile
  pub waited :
      (classes : List Class) (now : ℕ) (text : List ℕ) (old new : BayView) (ask : ℕ) → Turns classes now text old new
      → HasWish new.room.line.wishes ask → (n : ℕ) × LineWaits ask n old.room.line new.room.line
  -- nobody heard anything by it, and no number was given
  pub heard : (classes : List Class) (now : ℕ) (text : List ℕ) (old new : BayView) → Turns classes now text old new → HeardAsBefore old.room new.room
  pub numbers : (classes : List Class) (now : ℕ) (text : List ℕ) (old new : BayView) → Turns classes now text old new → new.room.book.next ≡ old.room.book.next

-- The old file and the new one say the same: just those hold, and hold the same; it is the same bay's; and each number of the new one was given. So it doesn't
-- matter which of the two stands after a crash
pub record SaysTheSame (old new : BayView) : Type 0 where
  pub holds : (number : ℕ) → alive new.log.lines number ≡ alive old.log.lines number
  pub its : (head : List ℕ) → IsOf head old.log.lines → IsOf head new.log.lines
  pub numbers : All (λ line. after_line line ≤ old.room.book.next) new.log.lines

abbrev pub FilesSayTheSame : Type 0
FilesSayTheSame =
    (classes : List Class) (now : ℕ) (text : List ℕ) (old new : BayView) → IsKept old → IsWhole old → old.room.terms.keeps ≡ true
    → Turns classes now text old new → SaysTheSame old new
