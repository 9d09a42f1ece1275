-- For readers: what holds of book and log together.
use Rattle.std.specs.Prelude.{◌≡◌, ℕ, ◌+◌, ◌<◌, ◌≤◌, true, List, [], ◌∷◌, ◌++◌, length, Some}
use Rattle.std.specs.List.{list_any}
use Rattle.bay_book.specs.declared.ask.Ask.{Ask}
use Rattle.bay_book.specs.declared.ask.Heard.TheVariants.{Holds as HeardHolds}
use Rattle.bay_book.specs.declared.ask.Stage.TheVariants.{Holds as StageHolds}
use Rattle.bay_book.specs.Asks.{ask_at}
use Rattle.bay_book.specs.Books.{BookView, IsSound}
use Rattle.bay_book.specs.Runs.{Call, IsAllowed, after_call}
use Rattle.bay_book.specs.Runs.Call.{Add, Hold, Finish, SetGone, IsBack, Give, Turn, Reach, Tell, Purge}
use Rattle.bay_line.specs.Lines.{LineView}
use Rattle.bay_log.specs.declared.line.Entry.{Entry}
use Rattle.bay_log.specs.declared.line.Line.{Line}
use Rattle.bay_log.specs.declared.line.Line.TheVariants.{Head, Note}
use Rattle.bay_log.specs.declared.reading.Found.{Found}
use Rattle.bay_log.specs.Lines.{log_text, base_of, AreLines}
use Rattle.bay_log.specs.Alive.{alive, begins}
use Rattle.bay_log.specs.Laws.{BeginsWith}
use Rattle.bay_log.specs.Logs.{IsStanding}
use Rattle.bay_log.specs.Reads.{IsRead}
use Rattle.bay.specs.declared.classes.Class.{Class}
use Rattle.bay.specs.Members.{Has}
use Rattle.bay.specs.Cores.{core, IsTied}
use Rattle.bay.specs.Written.{entry_of, IsWritten, BeginOnce}
use Rattle.bay.specs.Giving.{Kept, GivesLines}
use Rattle.bay.specs.Safe.{StaySafe}

-- a book in which nobody is
abbrev pub starting : ℕ → ℕ → ℕ → BookView
starting next granted durable = record { asks = []; next = next; granted = granted; durable = durable }

-- a call of a bay that keeps a log, by which no line is given
abbrev pub GivesNone : Call → Type 0
GivesNone (Add number class owner deadline limit now) = Unit {0}
GivesNone (Hold place needs now keeps) = keeps ≡ true
GivesNone (Finish place how now) = Unit {0}
GivesNone (SetGone place moment) = Unit {0}
GivesNone (IsBack place) = Unit {0}
GivesNone (Give at) = ⊥
GivesNone (Turn at) = ⊥
GivesNone (Reach position) = Unit {0}
GivesNone (Tell place what) = Unit {0}
GivesNone Purge = Unit {0}

-- The log says of the asks what the book does: in a bay that begins, after each call of the book, and after a note.
pub record StaysWritten : Type 0 where
  pub begins : (bay : List ℕ) (base next granted durable : ℕ) → IsWritten (Head bay base next granted ∷ []) (starting next granted durable)
  pub call :
      (lines : List Line) (x : BookView) (call : Call) → IsSound x → IsAllowed x call → GivesNone call → IsWritten lines x
      → IsWritten lines (after_call x call)
  pub note :
      (lines : List Line) (x : BookView) (ask : ℕ) (text : List ℕ) → AreLines (lines ++ Note ask text ∷ []) → ask < x.next → IsWritten lines x
      → IsWritten (lines ++ Note ask text ∷ []) x

-- Each ask begins at most once by the lines, and they are safe: in a bay that begins, after a note, and when more of them is durable.
pub record StaysSafe : Type 0 where
  pub once_begins : (bay : List ℕ) (base next granted : ℕ) → BeginOnce (Head bay base next granted ∷ [])
  pub once_note : (lines : List Line) (ask : ℕ) (text : List ℕ) → BeginOnce lines → BeginOnce (lines ++ Note ask text ∷ [])
  pub safe_begins :
      (classes : List Class) (bay : List ℕ) (base next granted durable : ℕ) → base ≤ durable
      → StaySafe classes (Head bay base next granted ∷ []) durable
  pub safe_note :
      (classes : List Class) (lines : List Line) (ask : ℕ) (text : List ℕ) (durable : ℕ) → AreLines (lines ++ Note ask text ∷ [])
      → StaySafe classes lines durable
      → StaySafe classes (lines ++ Note ask text ∷ []) durable
  pub safe_later : (classes : List Class) (lines : List Line) (durable later : ℕ) → durable ≤ later → StaySafe classes lines durable
      → StaySafe classes lines later

-- an ask is as it was, but for the lines that it owes
abbrev pub IsAsBefore : Ask → Ask → Type 0
IsAsBefore a b = a ≡ record b { hold_line = a.hold_line; end_line = a.end_line }

-- When lines are given, the log has more of them, and the asks are as they were but for what they owe
pub record GivesOnly (x y : Kept) : Type 0 where
  pub lines : BeginsWith y.log.lines x.log.lines
  pub log_durable : y.log.durable ≡ x.log.durable
  pub sent : y.log.sent ≡ x.log.sent
  pub next : y.book.next ≡ x.book.next
  pub granted : y.book.granted ≡ x.book.granted
  pub durable : y.book.durable ≡ x.book.durable
  pub many : length y.book.asks ≡ length x.book.asks
  pub asks : (j : ℕ) → j < length x.book.asks → IsAsBefore (ask_at y.book.asks j) (ask_at x.book.asks j)

-- So it is after all lines that are owed were given, or some of them. And the lines are safe, if the bay is
pub record GivenIsWritten : Type 0 where
  pub only : (x y : Kept) → GivesLines x y → GivesOnly x y
  pub sound : (x y : Kept) → IsSound x.book → GivesLines x y → IsSound y.book
  pub written :
      (x y : Kept) → IsStanding x.log → IsSound x.book → IsWritten x.log.lines x.book → GivesLines x y → IsWritten y.log.lines y.book
  pub tied :
      (classes : List Class) (line : LineView) (x y : Kept) → IsSound x.book → IsTied classes (core line x.book) → GivesLines x y
      → IsTied classes (core line y.book)
  pub safe :
      (classes : List Class) (line : LineView) (x y : Kept) → IsStanding x.log → IsSound x.book → IsWritten x.log.lines x.book
      → IsTied classes (core line x.book) → StaySafe classes x.log.lines x.book.durable → GivesLines x y
      → StaySafe classes y.log.lines y.book.durable
  pub once : (x y : Kept) → IsStanding x.log → IsSound x.book → IsWritten x.log.lines x.book → BeginOnce x.log.lines → GivesLines x y → BeginOnce y.log.lines

-- The file was cut at some byte, not before what the book knows to be durable, and these lines are read of it
pub record IsCut (lines : List Line) (x : BookView) (found : Found) : Type 0 where
  pub file : List ℕ
  pub back : List ℕ
  pub text : log_text lines ≡ file ++ back
  pub durable : x.durable ≤ base_of lines + length file
  pub read : IsRead file found

-- Told is kept: wherever the file is cut, whoever was told that it holds, and holds still, holds all that by the lines that are read. And whoever holds by
-- these has a line of them by which it began
pub record ToldIsKept : Type 0 where
  pub told :
      (lines : List Line) (x : BookView) (found : Found) → AreLines lines → IsSound x → IsWritten lines x → IsCut lines x found
      → (a : Ask) → Has x.asks a → a.stage ≡ StageHolds → a.heard ≡ HeardHolds → alive found.lines.items a.number ≡ Some (entry_of a)
  pub began : (lines : List Line) (n : ℕ) (e : Entry) → alive lines n ≡ Some e → list_any (begins n) lines ≡ true
  pub below :
      (lines : List Line) (x : BookView) (found : Found) → AreLines lines → IsWritten lines x → IsCut lines x found
      → (n : ℕ) (e : Entry) → alive found.lines.items n ≡ Some e → n < x.next
