-- For readers: which lines of the log are owed, and how they are written.
use Rattle.std.specs.Prelude.{◌≡◌, ◌⊎◌, ℕ, zero, suc, ◌+◌, ◌<◌, ◌≤◌, true, false, List, ◌++◌, length, Option, Some, None, Result, OnOk}
use Rattle.std.specs.declared.alloc.AllocError.{AllocError}
use Rattle.std.specs.List.{list_any}
use Rattle.bay_book.specs.declared.ask.Ask.{Ask}
use Rattle.bay_book.specs.declared.ask.End.{End}
use Rattle.bay_book.specs.declared.ask.End.TheVariants.{LetGo, Left, Lapsed, NotWritten, Limit, Grace, TakenAway, Replaced, Stopped}
use Rattle.bay_book.specs.declared.ask.Mark.{Mark}
use Rattle.bay_book.specs.declared.ask.Mark.TheVariants.{None as NoLine, Due, At}
use Rattle.bay_book.specs.declared.ask.Stage.{Stage}
use Rattle.bay_book.specs.declared.ask.Stage.TheVariants.{Waits, Holds, Over}
use Rattle.bay_book.specs.Asks.{ask_at, is_holding}
use Rattle.bay_book.specs.Books.{BookView, give_one}
use Rattle.bay_log.specs.declared.how.How.{How}
use Rattle.bay_log.specs.declared.how.How.TheVariants as hows
use Rattle.bay_log.specs.declared.line.Entry.{Entry}
use Rattle.bay_log.specs.declared.line.Line.{Line}
use Rattle.bay_log.specs.declared.line.Line.TheVariants.{Hold as HoldLine, End as EndLine}
use Rattle.bay_log.specs.Lines.{base_of, log_text}
use Rattle.bay_log.specs.Logs.{LogView, adding, end_of}
use Rattle.bay_log.specs.Alive.{alive, begins}
use Rattle.bay.specs.Members.{Has}

-- what an ask holds, as the log says it
abbrev pub entry_of : Ask → Entry
entry_of a = record { class = a.class; needs = a.needs; owner = a.owner; since = a.since; limit = a.limit; asked = a.asked; token = a.token }

abbrev pub how_of : End → How
how_of LetGo = hows.LetGo
how_of Left = hows.Left
how_of Lapsed = hows.Lapsed
how_of NotWritten = hows.NotWritten
how_of Limit = hows.Limit
how_of Grace = hows.Grace
how_of TakenAway = hows.TakenAway
how_of Replaced = hows.Replaced
how_of Stopped = hows.Stopped

-- the line that is owed, if the mark says so
abbrev pub if_due : Mark → Line → Option Line
if_due NoLine line = None
if_due Due line = Some line
if_due (At position) line = None

abbrev pub end_line_at : ℕ → ℕ → Stage → Mark → Option Line
end_line_at number since Waits mark = None
end_line_at number since Holds mark = None
end_line_at number since (Over how) mark = if_due mark (EndLine number (how_of how) since)

-- the line that says that it is over, if it is owed
abbrev pub owed_end : Ask → Option Line
owed_end a = end_line_at a.number a.since a.stage a.end_line

-- the line that says that it holds, if it is owed
abbrev pub owed_hold : Ask → Option Line
owed_hold a = if_due a.hold_line (HoldLine a.number (entry_of a))

-- ---- they are written

-- who asked, and the log
pub record Pages : Type 0 where
  pub book : BookView
  pub log : LogView

abbrev pub pages : BookView → LogView → Pages
pages book log = record { book = book; log = log }

-- the line is added, and the ask at this place has given it: the log is so long now
abbrev pub WritesThis : Option Line → ℕ → Pages → Pages → Type 0
WritesThis None place old new = new ≡ old
WritesThis (Some line) place old new = new ≡ pages (give_one old.book place (end_of (adding old.log line))) (adding old.log line)

-- the ask at this place writes the line of this kind that it owes, if it does
abbrev pub WritesOne : (Ask → Option Line) → ℕ → Pages → Pages → Type 0
WritesOne owed place old new = (place < length old.book.asks) × WritesThis (owed (ask_at old.book.asks place)) place old new

-- so do the first n
abbrev pub WritesTo : (Ask → Option Line) → ℕ → Pages → Pages → Type 0
WritesTo owed zero old new = new ≡ old
WritesTo owed (suc n) old new = (mid : Pages) × WritesTo owed n old mid × WritesOne owed n mid new

-- so do all; or if there is no memory, the first of them
abbrev pub WritesAll : (Ask → Option Line) → Result (Unit {0}) AllocError → Pages → Pages → Type 0
WritesAll owed result old new =
    (n : ℕ) × WritesTo owed n old new × OnOk result (n ≡ length old.book.asks)

-- All that is owed is written: first that asks are over, and then that they hold. So whatever stands in the log before a line that says that one holds: who
-- held that before it is over by the log. If there is no memory, the first lines are written
abbrev pub Writes : Result (Unit {0}) AllocError → Pages → Pages → Type 0
Writes result old new =
    ((mid : Pages) × WritesTo owed_end (length old.book.asks) old mid × WritesAll owed_hold result mid new)
    ⊎ (WritesAll owed_end result old new × OnOk result ⊥)

-- ---- what is true of book and log

-- From this position on the log says that the ask holds: there is a beginning of it, no longer than that, behind which no ask with this number begins to hold;
-- and by all lines it holds
pub record IsInLog (log : LogView) (a : Ask) (position : ℕ) : Type 0 where
  pub front : List Line
  pub rest : List Line
  pub is : log.lines ≡ front ++ rest
  pub so_far : base_of log.lines + length (log_text front) ≤ position
  pub once : list_any (begins a.number) rest ≡ false
  pub holds : alive log.lines a.number ≡ Some (entry_of a)

-- so it is with each that holds, and whose line was given
abbrev pub IsLogged : BookView → LogView → Type 0
IsLogged book log = (a : Ask) (position : ℕ) → Has book.asks a → is_holding a.stage ≡ true → a.hold_line ≡ At position → IsInLog log a position
