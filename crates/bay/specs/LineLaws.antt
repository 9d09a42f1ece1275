-- For readers: what holds of everybody who waits, of numbers and of tokens.
use Rattle.std.specs.Prelude.{◌≡◌, ◌⊎◌, ℕ, ◌<◌, ◌≤◌, List, length, Option, Some}
use Rattle.bay_line.specs.declared.wish.Wish.{Wish}
use Rattle.bay_line.specs.Lines.{asking, kept_in_order}
use Rattle.bay_line.specs.Bounds.{Waits}
use Rattle.bay_line.specs.Chains.{HasWholeReason}
use Rattle.bay_book.specs.declared.ask.Ask.{Ask}
use Rattle.bay_book.specs.declared.ask.End.{End}
use Rattle.bay_book.specs.Finding.{IsInUse}
use Rattle.bay_book.specs.Books.{BookView}
use Rattle.bay.specs.declared.request.Request.{Request}
use Rattle.bay.specs.declared.request.Urgency.TheVariants.{Urgent}
use Rattle.bay.specs.declared.telling.Told.{Told}
use Rattle.bay.specs.Members.{Has}
use Rattle.bay.specs.Classes.{class_bit}
use Rattle.bay.specs.Cores.{Core, AreFree}
use Rattle.bay.specs.Views.{RoomView, GoesOn}
use Rattle.bay.specs.Rooms.{IsKept, Asks, Ends, Leaves, Goes, ComesBack, Passes, Stops, Tells}

-- ---- who waits

-- a wish of the ask is in line
abbrev pub HasWish : List Wish → ℕ → Type 0
HasWish wishes ask = (w : Wish) × Has wishes w × (w.ask ≡ ask)

-- any call but that the room stops
abbrev pub IsCall : ℕ → RoomView → RoomView → Type 0
IsCall now old new =
    ((sets : List ℕ) × (r : Request) × Asks sets r now old new)
    ⊎ ((how : End) × (number : ℕ) × Ends how number now old new)
    ⊎ ((number : ℕ) × Leaves number now old new)
    ⊎ ((number : ℕ) × Goes number now old new)
    ⊎ ((number : ℕ) × (owner : ℕ) × (needs : ℕ) × ComesBack number owner now old (Some needs) new)
    ⊎ Passes now old new

-- Each call is a time in which an ask waits that is in line behind it: others ask, leave, or are let in. So the line's laws say by how many it is passed
-- meanwhile
abbrev pub CallsAreWaited : Type 0
CallsAreWaited =
    (old new : RoomView) (now ask : ℕ) → IsKept old → IsCall now old new → HasWish new.line.wishes ask → (n : ℕ) × Waits ask n old.line new.line

-- All that follows an urgent ask is a time that begins with the order kept of all that stand in line, it with them. So the line's laws say of each of them
-- that nobody who asked later goes before it
abbrev pub UrgentKeepsOrder : Type 0
UrgentKeepsOrder =
    (old new : RoomView) (sets : List ℕ) (r : Request) (now ask : ℕ) → Asks sets r now old new → r.urgency ≡ Urgent → HasWish new.line.wishes ask
    → (n : ℕ) × Waits ask n (kept_in_order (asking old.line r.number sets (class_bit r.class) r.deadline)) new.line

-- why each that is in line waits, to the end: no place is free for it; or it leads to an instrument that somebody holds
pub record EachHasAReason (x : RoomView) : Type 0 where
  pub used : ℕ
  pub free : ℕ
  pub are_used : IsInUse x.book.asks used
  pub are_free : AreFree x.classes x.book.asks free
  pub reasons : (k : ℕ) → k < length x.line.wishes → HasWholeReason x.line.most used free x.line.wishes k

-- so it is after each call
abbrev pub NobodyWaitsForNothing : Type 0
NobodyWaitsForNothing = (old new : RoomView) (now : ℕ) (mid : Core) → GoesOn now mid old new → EachHasAReason new

-- ---- numbers

-- a number is given once: whoever asks has a larger one than all that were given before, and no call gives one back
pub record NumbersRise : Type 0 where
  pub asks : (old new : RoomView) (sets : List ℕ) (r : Request) (now : ℕ) → Asks sets r now old new → (old.book.next ≤ r.number) × (r.number < new.book.next)
  pub calls : (old new : RoomView) (now : ℕ) → IsCall now old new → old.book.next ≤ new.book.next

-- ---- tokens

-- the ask has the number and the token of one that was in the book
abbrev pub HadToken : List Ask → Ask → Type 0
HadToken asks b = (a : Ask) × Has asks a × (a.number ≡ b.number) × (a.token ≡ b.token)

-- the largest token so far is no less than before; and each ask has the token that it had; or it has none; or it is larger than all that were given before
pub record Rises (old new : BookView) : Type 0 where
  pub largest : old.granted ≤ new.granted
  pub each : (b : Ask) → Has new.asks b → HadToken old.asks b ⊎ (b.token ≡ 0) ⊎ (old.granted < b.token)

-- so it is with each call: whoever is let in by it has a larger token than everybody that was let in before
pub record TokensRise : Type 0 where
  pub calls : (old new : RoomView) (now : ℕ) → IsCall now old new ⊎ Stops now old new → Rises old.book new.book
  pub tells : (old new : RoomView) (done : ℕ) (told : Option Told) → Tells done old told new → Rises old.book new.book
