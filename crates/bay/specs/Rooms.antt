-- For readers: what the calls of a room do.
use Rattle.std.specs.Prelude.{◌≡◌, ◌⊎◌, ℕ, ◌+◌, ◌<◌, ◌≤◌, max, true, false, List, length, Option, Some, None}
use Rattle.bay_line.specs.Lines.{nobody as nobody_in_line}
use Rattle.bay_book.specs.declared.ask.Ask.{Ask}
use Rattle.bay_book.specs.declared.ask.End.{End}
use Rattle.bay_book.specs.declared.ask.End.TheVariants.{Left}
use Rattle.bay_book.specs.declared.ask.Stage.TheVariants.{Waits, Holds}
use Rattle.bay_book.specs.Asks.{ask_at, is_over}
use Rattle.bay_book.specs.Books.{BookView, IsSound, nobody as nobody_in_book, reach}
use Rattle.bay.specs.declared.classes.Class.{Class}
use Rattle.bay.specs.declared.request.NotAsked.{NotAsked}
use Rattle.bay.specs.declared.request.NotHeld.{NotHeld}
use Rattle.bay.specs.declared.request.NotHeld.TheVariants.{Over as IsOver, Waits as IsWaiting}
use Rattle.bay.specs.declared.request.Request.{Request}
use Rattle.bay.specs.declared.telling.Told.{Told}
use Rattle.bay.specs.declared.terms.Terms.{Terms}
use Rattle.bay.specs.Cores.{Core, core, ended}
use Rattle.bay.specs.Requests.{why_not, asked, IsWhyNotTaken}
use Rattle.bay.specs.Stopping.{StopsTo}
use Rattle.bay.specs.Tellings.{is_still_told, TellsNext}
use Rattle.bay.specs.Standings.{StandsAt, IsGone, MarksGone, MarksBack}
use Rattle.bay.specs.Views.{RoomView, core_of, IsRoom, with_core, GoesOn}

-- what is true of every room
pub record IsKept (x : RoomView) : Type 0 where
  pub room : IsRoom x
  pub book : IsSound x.book

-- a room in which nobody has asked
abbrev pub IsOpened : List Class → Terms → ℕ → ℕ → RoomView → Type 0
IsOpened classes terms limit most x = x ≡ record {
  classes = classes;
  terms = terms;
  line = nobody_in_line limit most;
  book = nobody_in_book;
  moment = 0;
  stopped = false;
  telling = None;
  serial = 0;
}

-- time goes by
abbrev pub Passes : ℕ → RoomView → RoomView → Type 0
Passes now old new = GoesOn now (core_of old) old new

-- ---- somebody asks

-- it is refused by this before anything is tried; or nothing speaks against it, and the line has no room, or there is no memory
abbrev pub IsWhyNot : RoomView → List ℕ → Request → NotAsked → Type 0
IsWhyNot x sets r why =
    (why_not x.classes x.book x.stopped sets r ≡ Some why) ⊎ ((why_not x.classes x.book x.stopped sets r ≡ None) × IsWhyNotTaken x.line sets why)

-- it stands at the end of the line, and is in the book; and all follows from that
pub record Asks (sets : List ℕ) (r : Request) (now : ℕ) (old new : RoomView) : Type 0 where
  pub fits : why_not old.classes old.book old.stopped sets r ≡ None
  pub room : length old.line.wishes + length sets ≤ old.line.limit
  pub goes_on : GoesOn now (asked (core_of old) sets r (max old.moment now)) old new

-- ---- one ends

-- the ask with this number, which held, is over like this; and all follows from that
pub record Ends (how : End) (number now : ℕ) (old new : RoomView) : Type 0 where
  pub place : ℕ
  pub stands : StandsAt old.book.asks number place Holds
  pub goes_on : GoesOn now (ended (core_of old) place how (max old.moment now)) old new

-- it is over, or nobody ever asked so; or it waits
abbrev pub IsWhyNotHeld : RoomView → ℕ → NotHeld → Type 0
IsWhyNotHeld x number IsOver = IsGone x.book.asks number
IsWhyNotHeld x number IsWaiting = (place : ℕ) × StandsAt x.book.asks number place Waits

-- it waits or holds
pub record IsOpenAt (asks : List Ask) (number place : ℕ) : Type 0 where
  pub inside : place < length asks
  pub its : (ask_at asks place).number ≡ number
  pub is_open : is_over (ask_at asks place).stage ≡ false

-- the ask with this number is over, if it wasn't yet: its owner left; and all follows from that
abbrev pub Leaves : ℕ → ℕ → RoomView → RoomView → Type 0
Leaves number now old new =
    ((place : ℕ) × IsOpenAt old.book.asks number place × GoesOn now (ended (core_of old) place Left (max old.moment now)) old new)
    ⊎ (IsGone old.book.asks number × GoesOn now (core_of old) old new)

-- from this moment on its client is gone, if it is in the book; and all follows from that
abbrev pub Goes : ℕ → ℕ → RoomView → RoomView → Type 0
Goes number now old new =
    (book : BookView) × MarksGone number (max old.moment now) old.book book × GoesOn now (core old.line book) old new

-- Its client is there again, and holds this; and all follows from that. Or it is over, or another's, and nothing changed
abbrev pub ComesBack : ℕ → ℕ → ℕ → RoomView → Option ℕ → RoomView → Type 0
ComesBack number owner now old (Some needs) new =
    (book : BookView) × MarksBack number owner old.book (Some needs) book × GoesOn now (core old.line book) old new
ComesBack number owner now old None new = MarksBack number owner old.book None old.book × (new ≡ old)

-- ---- the room stops

abbrev pub stopping : RoomView → RoomView
stopping x = record {
  classes = x.classes;
  terms = x.terms;
  line = x.line;
  book = x.book;
  moment = x.moment;
  stopped = true;
  telling = x.telling;
  serial = x.serial;
}

-- nobody may ask any more; all that wait end; and all follows from that
abbrev pub Stops : ℕ → RoomView → RoomView → Type 0
Stops now old new = (mid : Core) × StopsTo (max old.moment now) (length old.book.asks) (core_of old) mid × GoesOn now mid (stopping old) new

-- ---- what is told

abbrev pub with_book : RoomView → BookView → RoomView
with_book x book = with_core x x.moment (core x.line book)

-- what was given outlives a crash up to there
abbrev pub reached : RoomView → ℕ → RoomView
reached x position = with_book x (reach x.book position)

abbrev pub telling_this : RoomView → Option Told → ℕ → BookView → RoomView
telling_this x telling serial book = record {
  classes = x.classes;
  terms = x.terms;
  line = x.line;
  book = book;
  moment = x.moment;
  stopped = x.stopped;
  telling = telling;
  serial = serial;
}

-- what was told, and isn't done, is told again; or the next is told
abbrev pub Tells : ℕ → RoomView → Option Told → RoomView → Type 0
Tells done old result new =
    ((is_still_told done old.telling ≡ true) × (result ≡ old.telling) × (new ≡ old))
    ⊎ ((is_still_told done old.telling ≡ false) × TellsNext old.serial old.book (result, new.serial) new.book
    × (new ≡ telling_this old result new.serial new.book))
