-- For readers: the line and the book together, what is true of both, and how one is let in or ends.
use Rattle.std.specs.Prelude.{◌≡◌, ◌≢◌, ◌↔◌, ℕ, ◌<◌, ◌≤◌, Bool, true, false, List, length}
use Rattle.std.specs.List.{count_by}
use Rattle.std.specs.Int.{bit_at}
use Rattle.bay_line.specs.declared.wish.Wish.{Wish}
use Rattle.bay_line.specs.declared.going_in.Seated.{Seated}
use Rattle.bay_line.specs.Turns.{HasReason}
use Rattle.bay_line.specs.Lines.{LineView, IsNext, gone, leaving}
use Rattle.bay_book.specs.declared.ask.Ask.{Ask}
use Rattle.bay_book.specs.declared.ask.End.{End}
use Rattle.bay_book.specs.declared.ask.Stage.TheVariants.{Waits}
use Rattle.bay_book.specs.Asks.{ask_at, is_holding, holds_class}
use Rattle.bay_book.specs.Moments.{common}
use Rattle.bay_book.specs.Finding.{IsInUse}
use Rattle.bay_book.specs.Books.{BookView, hold, end}
use Rattle.bay.specs.declared.classes.Class.{Class}
use Rattle.bay.specs.Members.{Has}
use Rattle.bay.specs.Classes.{class_at, class_bit, is_within}

-- who waits, and who asked
pub record Core : Type 0 where
  pub line : LineView
  pub book : BookView

abbrev pub core : LineView → BookView → Core
core line book = record { line = line; book = book }

-- the wish is the ask's, and within what its class uses
pub record IsItsWish (classes : List Class) (a : Ask) (w : Wish) : Type 0 where
  pub number : a.number ≡ w.ask
  pub class : w.classes ≡ class_bit a.class
  pub within : is_within (class_at classes a.class).uses w.needs ≡ true
  pub deadline : w.deadline ≡ a.deadline

-- the ask has a wish in line
abbrev pub IsInLine : LineView → Ask → Type 0
IsInLine line a = (w : Wish) × Has line.wishes w × (w.ask ≡ a.number)

-- the wish is one of an ask that waits
abbrev pub IsByBook : List Class → BookView → Wish → Type 0
IsByBook classes book w = (a : Ask) × Has book.asks a × (a.stage ≡ Waits) × IsItsWish classes a w

-- the ask is in the book, and holds
abbrev pub HoldsIn : BookView → Ask → Type 0
HoldsIn book a = Has book.asks a × (is_holding a.stage ≡ true)

-- What is true of every bay. Who waits by the book is in line, and who is in line waits by the book; no two hold a common instrument; of each class no more
-- hold than it has places; and each holds what its class may use
pub record IsTied (classes : List Class) (x : Core) : Type 0 where
  pub in_line : (a : Ask) → Has x.book.asks a → a.stage ≡ Waits → IsInLine x.line a
  pub by_book : (w : Wish) → Has x.line.wishes w → IsByBook classes x.book w
  pub apart : (a b : Ask) → HoldsIn x.book a → HoldsIn x.book b → a.number ≢ b.number → common a.needs b.needs ≡ false
  pub few : (k : ℕ) → count_by (holds_class k) x.book.asks ≤ (class_at classes k).places
  pub within : (a : Ask) → HoldsIn x.book a → is_within (class_at classes a.class).uses a.needs ≡ true

-- ---- one is let in

-- a place of the class is free
abbrev pub IsFreeClass : List Class → List Ask → ℕ → Type 0
IsFreeClass classes asks k = count_by (holds_class k) asks < (class_at classes k).places

-- the set has just the classes of which a place is free
abbrev pub AreFree : List Class → List Ask → ℕ → Type 0
AreFree classes asks free = (k : ℕ) → (bit_at free k ≡ 1) ↔ ((k < length classes) × IsFreeClass classes asks k)

-- The next in line was let in: no instrument of it is in use, nor kept for one that goes before it, and a place of its class is free. It holds from this
-- moment on
pub record LetsIn (classes : List Class) (now : ℕ) (keeps : Bool) (old new : Core) : Type 0 where
  pub used : ℕ
  pub free : ℕ
  pub are_used : IsInUse old.book.asks used
  pub are_free : AreFree classes old.book.asks free
  pub in_line : ℕ
  pub it : Seated
  pub next : IsNext old.line.most used free old.line.wishes in_line it
  pub place : ℕ
  pub inside : place < length old.book.asks
  pub number : (ask_at old.book.asks place).number ≡ it.ask
  pub waits : (ask_at old.book.asks place).stage ≡ Waits
  pub line : new.line ≡ gone old.line it free
  pub book : new.book ≡ hold old.book place it.needs now keeps

-- Nobody waits for nothing: each wish in line has a reason. No place is free for it; or an instrument of it is in use; or one is kept for one that goes before
-- it
pub record NobodyWaits (classes : List Class) (x : Core) : Type 0 where
  pub used : ℕ
  pub free : ℕ
  pub are_used : IsInUse x.book.asks used
  pub are_free : AreFree classes x.book.asks free
  pub reasons : (k : ℕ) → k < length x.line.wishes → HasReason x.line.most used free x.line.wishes k

-- ---- one ends

-- the ask at this place is over, from this moment on, and has no wish in line
abbrev pub ended : Core → ℕ → End → ℕ → Core
ended x place how now = record { line = leaving x.line (ask_at x.book.asks place).number; book = end x.book place how now }
