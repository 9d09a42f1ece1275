-- For readers: that who holds goes on to hold over every call of a bay but those that end it.
use Rattle.std.specs.Prelude.{◌≡◌, ◌⊎◌, ℕ, true}
use Rattle.bay_book.specs.declared.ask.Ask.{Ask}
use Rattle.bay_book.specs.declared.ask.End.{End}
use Rattle.bay_book.specs.declared.ask.Heard.TheVariants.{Holds as HeardHolds}
use Rattle.bay_book.specs.Asks.{is_holding}
use Rattle.bay.specs.Cores.{HoldsIn}
use Rattle.bay.specs.Pages.{entry_of}
use Rattle.bay.specs.Laws.{HoldsOn}
use Rattle.bay.specs.Rooms.{Ends, Leaves}
use Rattle.bay.specs.Bays.{BayView, IsKept, IsBayCall}

-- the second holds what the first did, with the same number, owner and token, since the same moment; and if that was told, it was
pub record IsSameHold (a b : Ask) : Type 0 where
  pub number : b.number ≡ a.number
  pub entry : entry_of b ≡ entry_of a
  pub holds : is_holding b.stage ≡ true
  pub deadline : b.deadline ≡ a.deadline
  pub told : a.heard ≡ HeardHolds → b.heard ≡ HeardHolds

-- it holds on; or its own time was over
abbrev pub StaysHeld : BayView → Ask → Type 0
StaysHeld new a = (b : Ask) × IsSameHold a b × HoldsOn new.room.classes new.room.terms new.room.moment new.room.book b

-- the call ends it: somebody lets go of what the ask holds, or takes it away; or its owner leaves
abbrev pub EndsIt : ℕ → BayView → BayView → Type 0
EndsIt number old new = (now : ℕ) × (((how : End) × Ends how number now old.room new.room) ⊎ Leaves number now old.room new.room)

-- whoever holds goes on to hold, whatever call there is, until its own time is over; or the call was one that ends it
abbrev pub EveryCallHoldsOn : Type 0
EveryCallHoldsOn =
    (old new : BayView) (a : Ask) → IsKept old → HoldsIn old.room.book a → IsBayCall old new → StaysHeld new a ⊎ EndsIt a.number old new
