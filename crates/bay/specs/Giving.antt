-- For readers: how the lines that are owed are given.
use Rattle.std.specs.Prelude.{◌≡◌, ◌⊎◌, ℕ, zero, suc, ◌<◌, length}
use Rattle.bay_book.specs.declared.ask.Ask.{Ask}
use Rattle.std.specs.Prelude.{Result}
use Rattle.std.specs.declared.alloc.AllocError.{AllocError}
use Rattle.bay_book.specs.declared.ask.Mark.TheVariants.{Due}
use Rattle.bay_book.specs.declared.ask.Stage.{Stage}
use Rattle.bay_book.specs.declared.ask.Stage.TheVariants.{Waits, Holds, Over}
use Rattle.bay_book.specs.Asks.{ask_at}
use Rattle.bay_book.specs.Books.{BookView, IsSound, give_one}
use Rattle.bay_log.specs.declared.how.How.{How}
use Rattle.bay_log.specs.declared.how.How.TheVariants as hows
use Rattle.bay_log.specs.declared.line.Line.{Line}
use Rattle.bay_log.specs.declared.line.Line.TheVariants.{Hold, End as EndLine}
use Rattle.bay_log.specs.Logs.{adding, end_of}
use Rattle.bay.specs.Pages.{Pages, how_of, Writes}
use Rattle.bay.specs.Written.{entry_of}

-- the book, and the log that is kept of it
abbrev pub Kept : Type 0
Kept = Pages

-- how the ask is over, by the log; of one that isn't, that the bay stopped
abbrev pub how_over : Stage → How
how_over Waits = hows.Stopped
how_over Holds = hows.Stopped
how_over (Over how) = how_of how

abbrev pub end_line : Ask → Line
end_line a = EndLine a.number (how_over a.stage) a.since

abbrev pub hold_line : Ask → Line
hold_line a = Hold a.number (entry_of a)

-- the log has one line more, and the ask's mark says how long the log is now
abbrev pub given_line : Kept → ℕ → Line → Kept
given_line x place line = (let log = adding x.log line in record { book = give_one x.book place (end_of log); log = log })

-- one that is over and owes a line of that is given it
pub record GivesEnd (old new : Kept) : Type 0 where
  pub place : ℕ
  pub inside : place < length old.book.asks
  pub due : (ask_at old.book.asks place).end_line ≡ Due
  pub then : new ≡ given_line old place (end_line (ask_at old.book.asks place))

abbrev pub NoEndIsDue : BookView → Type 0
NoEndIsDue x = (j : ℕ) → j < length x.asks → (ask_at x.asks j).end_line ≡ Due → ⊥

-- Nobody owes a line that it is over, and one that holds and owes a line of that is given it
pub record GivesHold (old new : Kept) : Type 0 where
  pub place : ℕ
  pub inside : place < length old.book.asks
  pub due : (ask_at old.book.asks place).hold_line ≡ Due
  pub ended : NoEndIsDue old.book
  pub then : new ≡ given_line old place (hold_line (ask_at old.book.asks place))

-- so many lines are given, one after another
abbrev pub Gives : ℕ → Kept → Kept → Type 0
Gives zero old new = new ≡ old
Gives (suc n) old new = (mid : Kept) × Gives n old mid × (GivesEnd mid new ⊎ GivesHold mid new)

abbrev pub GivesLines : Kept → Kept → Type 0
GivesLines old new = (n : ℕ) × Gives n old new

-- what is owed is written line by line
abbrev pub WritesGive : Type 0
WritesGive = (result : Result (Unit {0}) AllocError) (old new : Kept) → IsSound old.book → Writes result old new → GivesLines old new
