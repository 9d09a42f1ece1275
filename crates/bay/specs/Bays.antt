-- For readers: what the calls of a bay do with its log, and what is true of every bay.
use Rattle.std.specs.Prelude.{◌≡◌, ◌≢◌, ◌⊎◌, ℕ, true, ◌+◌, ◌≤◌, ◌<◌, List, ◌++◌, length, Option, Some, None, Result}
use Rattle.std.specs.declared.alloc.AllocError.{AllocError}
use Rattle.bay_book.specs.declared.ask.Ask.{Ask}
use Rattle.bay_book.specs.declared.ask.End.TheVariants.{LetGo}
use Rattle.bay_book.specs.declared.ask.Heard.TheVariants.{Holds as HeardHolds, End as HeardEnd}
use Rattle.bay_book.specs.declared.ask.Mark.TheVariants.{At}
use Rattle.bay_book.specs.declared.ask.Stage.TheVariants.{Holds, Over}
use Rattle.bay_log.specs.declared.line.Line.TheVariants.{Note}
use Rattle.bay_log.specs.declared.reading.Found.{Found}
use Rattle.bay_log.specs.Texts.{IsText}
use Rattle.bay_log.specs.Lines.{base_of, log_text}
use Rattle.bay_log.specs.Logs.{LogView, IsStanding, resumed, end_of, beginning, adding, sending, reaching, failing}
use Rattle.bay_log.specs.Reads.{IsRead}
use Rattle.bay_log.specs.Alive.{alive}
use Rattle.bay.specs.declared.bay.NotOpened.{NotOpened}
use Rattle.bay.specs.declared.bay.NotOpened.TheVariants.{Classes, NoMemory as NotOpenedMemory}
use Rattle.bay.specs.declared.bay.NotNoted.{NotNoted}
use Rattle.bay.specs.declared.bay.NotNoted.TheVariants.{NotHeld, NoText, NoMemory}
use Rattle.bay.specs.Standings.{HoldsTold}
use Rattle.bay.specs.declared.classes.Class.{Class}
use Rattle.bay.specs.declared.telling.Told.{Told}
use Rattle.bay.specs.declared.terms.Terms.{Terms}
use Rattle.bay.specs.Members.{Has}
use Rattle.bay.specs.Ended.{AreInLog, IsPast}
use Rattle.bay.specs.Written.{bound_of, IsWritten}
use Rattle.bay.specs.Safe.{StaySafe}
use Rattle.bay.specs.Refusals.{IsWhyNotBack}
use Rattle.bay.specs.declared.restoring.NotBack.{NotBack}
use Rattle.bay.specs.declared.restoring.NotBack.TheVariants.{NoMemory as NotBackMemory}
use Rattle.bay_log.specs.declared.line.Line.{Line}
use Rattle.bay_log.specs.Laws.{BeginsWith}
use Rattle.bay.specs.Rooms.{IsOpened, with_book, Stops, Tells, reached, IsKept as IsKeptRoom}
use Rattle.bay.specs.LineLaws.{IsCall}
use Rattle.bay.specs.Restoring.{IsOf, IsBack, IsThere, token_of}
use Rattle.bay.specs.Pages.{entry_of, pages, Writes as WritesOwed}
use Rattle.bay.specs.Turning.{Turns}
pub use Rattle.bay.specs.BayViews.{BayView}

abbrev pub with_log : BayView → LogView → BayView
with_log x log = record { room = x.room; log = log }

-- what is true of every bay
pub record IsKept (x : BayView) : Type 0 where
  pub room : IsKeptRoom x.room
  pub standing : IsStanding x.log
  pub logged : AreInLog x.room.book x.log

-- all that is owed is added to the log
pub record Writes (result : Result (Unit {0}) AllocError) (old new : BayView) : Type 0 where
  pub writes : WritesOwed result (pages old.room.book old.log) (pages new.room.book new.log)
  pub same : new.room ≡ with_book old.room new.room.book

-- it has more than 32 classes; or there is no memory
abbrev pub IsWhyNotOpened : List Class → NotOpened → Type 0
IsWhyNotOpened classes Classes = 32 < length classes
IsWhyNotOpened classes NotOpenedMemory = Unit {0}

-- the ask doesn't hold, or wasn't told so; or this isn't the text of a note; or it is, and there is no memory
abbrev pub IsWhyNotNoted : BayView → ℕ → List ℕ → NotNoted → Type 0
IsWhyNotNoted x number text NotHeld = HoldsTold x.room.book.asks number → ⊥
IsWhyNotNoted x number text NoText = IsText text → ⊥
IsWhyNotNoted x number text NoMemory = IsText text

-- ---- what was told is kept

-- An ask holds, and was told so, and its line was given. Whatever is left of the file after a crash, if it has all that is durable by the book: by the lines
-- that are read of it the ask holds what it holds, for its owner
abbrev pub ToldIsKept : BayView → Type 0
ToldIsKept x =
    (file lost : List ℕ) (found : Found) → log_text x.log.lines ≡ file ++ lost → x.room.book.durable ≤ base_of x.log.lines + length file → IsRead file found
    → (a : Ask) (position : ℕ) → Has x.room.book.asks a → a.stage ≡ Holds → a.heard ≡ HeardHolds → a.hold_line ≡ At position
    → alive found.lines.items a.number ≡ Some (entry_of a)

-- ---- the bay comes back

-- Of this file so many bytes were read, and its head is this bay's. The log goes on behind them; and just those hold that held by its lines
pub record Resumes (classes : List Class) (terms : Terms) (limit most : ℕ) (head bytes : List ℕ) (now : ℕ) (x : BayView) (used : ℕ) : Type 0 where
  pub found : Found
  pub read : IsRead bytes found
  pub used_is : used ≡ found.used
  pub its : IsOf head found.lines.items
  pub log : x.log ≡ resumed found
  pub back : IsBack found.lines.items limit most now (end_of x.log) x.room
  pub classes_are : x.room.classes ≡ classes
  pub terms_are : x.room.terms ≡ terms

-- So it comes back: an ask holds, and was told so, and its line was given. Whatever is left of the file after a crash, if it has all that is durable by the
-- book: in the bay that comes back from it the ask holds what it held, for its owner
abbrev pub ToldComesBack : BayView → Type 0
ToldComesBack x =
    (classes : List Class) (terms : Terms) (limit most : ℕ) (head file lost : List ℕ) (now used : ℕ) (y : BayView) → log_text x.log.lines ≡ file ++ lost
    → x.room.book.durable ≤ base_of x.log.lines + length file → Resumes classes terms limit most head file now y used
    → (a : Ask) (position : ℕ) → Has x.room.book.asks a → a.stage ≡ Holds → a.heard ≡ HeardHolds → a.hold_line ≡ At position
    → IsThere y.room.book a.number (entry_of a)

-- ---- who was told that it let go stays over

-- An ask that let go, and was told so, is past. So is each whose end stands in the log, where that is durable by the book. Whatever is left of the file after
-- a crash, if it has all that is durable by the book: by the lines that are read of it none that is past holds; and in the bay that comes back from it nobody
-- has its number
pub record LetGoIsKept (x : BayView) : Type 0 where
  pub told : (a : Ask) → Has x.room.book.asks a → a.stage ≡ Over LetGo → a.heard ≡ HeardEnd → IsPast x.room.book x.log.lines a.number
  pub durable :
      (a : Ask) (position : ℕ) → Has x.room.book.asks a → a.end_line ≡ At position → position ≤ x.room.book.durable
      → IsPast x.room.book x.log.lines a.number
  pub read :
      (number : ℕ) → IsPast x.room.book x.log.lines number → (file lost : List ℕ) (found : Found) → log_text x.log.lines ≡ file ++ lost
      → x.room.book.durable ≤ base_of x.log.lines + length file → IsRead file found → alive found.lines.items number ≡ None
  pub back :
      (number : ℕ) → IsPast x.room.book x.log.lines number → (classes : List Class) (terms : Terms) (limit most : ℕ) (head file lost : List ℕ) (now used : ℕ)
      (y : BayView) → log_text x.log.lines ≡ file ++ lost → x.room.book.durable ≤ base_of x.log.lines + length file
      → Resumes classes terms limit most head file now y used → (b : Ask) → Has y.room.book.asks b → b.number ≢ number

-- any call of a bay
abbrev pub IsBayCall : BayView → BayView → Type 0
IsBayCall old new =
    (((now : ℕ) × (IsCall now old.room new.room ⊎ Stops now old.room new.room)) × (new.log ≡ old.log))
    ⊎ (((done : ℕ) × (told : Option Told) × Tells done old.room told new.room) × (new.log ≡ old.log))
    ⊎ ((result : Result (Unit {0}) AllocError) × Writes result old new)
    ⊎ ((number : ℕ) × (text : List ℕ) × HoldsTold old.room.book.asks number × (new ≡ with_log old (adding old.log (Note number text))))
    ⊎ (new ≡ with_log old (sending old.log))
    ⊎ ((position : ℕ) × (new.room ≡ reached old.room position) × (new.log ≡ reaching old.log position))
    ⊎ (new ≡ with_log old (failing old.log))
    ⊎ ((classes : List Class) × (now : ℕ) × (text : List ℕ) × Turns classes now text old new)

-- Whoever is past stays past, also when it isn't in the book any more
abbrev pub PastStaysPast : Type 0
PastStaysPast =
    (old new : BayView) (number : ℕ) → IsKept old → IsBayCall old new → IsPast old.room.book old.log.lines number → IsPast new.room.book new.log.lines number

-- ---- tokens outlive a crash

-- a line that ended where the file is durable by the book, or before, says this token, or a larger one; and it isn't larger than the largest so far
pub record IsSure (x : BayView) (token : ℕ) : Type 0 where
  pub front : List Line
  pub begins : BeginsWith x.log.lines front
  pub within : base_of x.log.lines + length (log_text front) ≤ x.room.book.durable
  pub line : Line
  pub has : Has front line
  pub its : token ≤ token_of line
  pub few : token ≤ x.room.book.granted

-- The token of whoever was told that it holds is sure, from then on, whatever is called, also when the ask isn't in the book any more. Whatever is left of the
-- file after a crash, if it has all that is durable by the book: in the bay that comes back from it no sure token is larger than the largest so far. So whoever
-- is let in there has a larger one than everybody that was ever told that it holds
pub record TokensOutlive (x : BayView) : Type 0 where
  pub told :
      (a : Ask) (position : ℕ) → Has x.room.book.asks a → a.stage ≡ Holds → a.heard ≡ HeardHolds → a.hold_line ≡ At position → IsSure x a.token
  pub stays : (new : BayView) (token : ℕ) → IsBayCall x new → IsSure x token → IsSure new token
  pub back :
      (token : ℕ) → IsSure x token → (classes : List Class) (terms : Terms) (limit most : ℕ) (head file lost : List ℕ) (now used : ℕ) (y : BayView)
      → log_text x.log.lines ≡ file ++ lost → x.room.book.durable ≤ base_of x.log.lines + length file
      → Resumes classes terms limit most head file now y used → token ≤ y.room.book.granted

-- ---- a bay comes back from its own lines

-- the log says of the asks what the book does, but for lines that are owed; and its lines are safe, wherever they are cut at or behind what is durable
pub record IsWhole (x : BayView) : Type 0 where
  pub written : IsWritten x.log.lines x.room.book
  pub safe : StaySafe x.room.classes x.log.lines x.room.book.durable

-- So is a bay that was opened. It stays so whatever is called, if it keeps a log. And so is one that came back, if no line that was read has the last of all
-- numbers
pub record StaysWhole : Type 0 where
  pub opens :
      (classes : List Class) (terms : Terms) (limit most : ℕ) (head : List ℕ) (x : BayView) → IsOpened classes terms limit most x.room
      → x.log ≡ beginning head 0 0 0 → IsWhole x
  pub calls : (old new : BayView) → IsKept old → IsKept new → old.room.terms.keeps ≡ true → IsBayCall old new → IsWhole old → IsWhole new
  pub back :
      (classes : List Class) (terms : Terms) (limit most : ℕ) (head bytes : List ℕ) (now used : ℕ) (x : BayView) → IsKept x
      → Resumes classes terms limit most head bytes now x used → ((line : Line) → Has x.log.lines line → bound_of line ≤ 18446744073709551615) → IsWhole x

-- Whatever is left of the file of such a bay after a crash, if it has all that is durable by the book
pub record ComesBack (x : BayView) : Type 0 where
  -- and its head is durable: with the same classes it is refused only if there is no memory
  pub refused :
      IsWhole x → (head file lost : List ℕ) (front : List Line) → log_text x.log.lines ≡ file ++ lost
      → x.room.book.durable ≤ base_of x.log.lines + length file → BeginsWith x.log.lines front → IsOf head front
      → base_of x.log.lines + length (log_text front) ≤ x.room.book.durable → (why : NotBack) → IsWhyNotBack x.room.classes head file why
      → why ≡ NotBackMemory
  -- and the bay that comes back from it is such a bay again
  pub again :
      IsWhole x → (classes : List Class) (terms : Terms) (limit most : ℕ) (head file lost : List ℕ) (now used : ℕ) (y : BayView)
      → log_text x.log.lines ≡ file ++ lost → x.room.book.durable ≤ base_of x.log.lines + length file
      → Resumes classes terms limit most head file now y used → IsKept y → IsWhole y
