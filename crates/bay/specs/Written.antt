-- For readers: what the log's lines say of the asks of a book.
use Rattle.std.specs.Prelude.{◌≡◌, ◌≢◌, ℕ, ◌+◌, ◌==◌, ◌≤◌, Bool, true, false, ◌||◌, max, List, ◌++◌, length, Some}
use Rattle.std.specs.List.{list_any, count_by}
use Rattle.bay_book.specs.declared.ask.Ask.{Ask}
use Rattle.bay_book.specs.declared.ask.Mark.{Mark}
use Rattle.bay_book.specs.declared.ask.Mark.TheVariants.{None as NoLine, Due, At}
use Rattle.bay_book.specs.declared.ask.Stage.TheVariants.{Holds}
use Rattle.bay_book.specs.Asks.{is_over}
use Rattle.bay_book.specs.Books.{BookView}
use Rattle.bay_log.specs.declared.line.Entry.{Entry}
use Rattle.bay_log.specs.declared.line.Line.{Line}
use Rattle.bay_log.specs.declared.line.Line.TheVariants.{Head, Hold, Back, End, Note}
use Rattle.bay_log.specs.Lines.{log_text, base_of}
use Rattle.bay_log.specs.Alive.{alive, begins}
use Rattle.bay.specs.Members.{Has}

-- what an ask holds, as its line says it
abbrev pub entry_of : Ask → Entry
entry_of a = record { class = a.class; needs = a.needs; owner = a.owner; since = a.since; limit = a.limit; asked = a.asked; token = a.token }

-- the line was given
abbrev pub is_given : Mark → Bool
is_given NoLine = false
is_given Due = false
is_given (At position) = true

-- a line was given that it holds, and none that it is over
pub record IsOpen (a : Ask) : Type 0 where
  pub begun : is_given a.hold_line ≡ true
  pub goes_on : is_given a.end_line ≡ false

-- the line changes what this ask holds
abbrev pub touches : ℕ → Line → Bool
touches n (Head bay base next granted) = false
touches n (Hold ask entry) = n == ask
touches n (Back from to) = n == from || n == to
touches n (End ask how at) = n == ask
touches n (Note ask text) = false

-- every number of the line is below this
abbrev pub bound_of : Line → ℕ
bound_of (Head bay base next granted) = next
bound_of (Hold ask entry) = ask + 1
bound_of (Back from to) = max from to + 1
bound_of (End ask how at) = ask + 1
bound_of (Note ask text) = ask + 1

-- By the lines before this position the ask holds so much, and no later line changes that
pub record Stands (lines : List Line) (at number : ℕ) (entry : Entry) : Type 0 where
  pub early : List Line
  pub later : List Line
  pub split : lines ≡ early ++ later
  pub within : base_of lines + length (log_text early) ≤ at
  pub holds : alive early number ≡ Some entry
  pub still : list_any (touches number) later ≡ false

-- So the ask stands in the lines: if it still holds, with all that it holds by the book
pub record StandsIn (lines : List Line) (at : ℕ) (a : Ask) : Type 0 where
  pub entry : Entry
  pub stands : Stands lines at a.number entry
  pub same : a.stage ≡ Holds → entry ≡ entry_of a

-- The log says of the asks what the book does, but for lines that are still owed
pub record IsWritten (lines : List Line) (x : BookView) : Type 0 where
  -- each ask of which a line was given that it holds, and none that it is over, stands in the lines before its mark
  pub stand : (a : Ask) (at : ℕ) → Has x.asks a → a.hold_line ≡ At at → is_given a.end_line ≡ false → StandsIn lines at a
  -- and by the lines nobody holds but these
  pub only : (n : ℕ) (e : Entry) → alive lines n ≡ Some e → (a : Ask) × Has x.asks a × (a.number ≡ n) × IsOpen a
  -- who holds has a line, given or owed; and so has the end of one whose line was given
  pub kept : (a : Ask) → Has x.asks a → a.stage ≡ Holds → a.hold_line ≢ NoLine
  pub ends : (a : Ask) → Has x.asks a → is_over a.stage ≡ true → is_given a.hold_line ≡ true → a.end_line ≢ NoLine
  -- no line says that an ask holds whose line wasn't given, and none has a number that wasn't given
  pub unused : (a : Ask) → Has x.asks a → is_given a.hold_line ≡ false → count_by (begins a.number) lines ≡ 0
  pub below : (line : Line) → Has lines line → bound_of line ≤ x.next

-- each ask begins at most once
abbrev pub BeginOnce : List Line → Type 0
BeginOnce lines = (n : ℕ) → count_by (begins n) lines ≤ 1
