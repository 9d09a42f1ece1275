-- For readers: what the log says of those that are over.
use Rattle.std.specs.Prelude.{◌≡◌, ◌≢◌, ℕ, ◌-◌, ◌<◌, ◌≤◌, true, false, List, ◌++◌, length, None}
use Rattle.std.specs.List.{list_any}
use Rattle.bay_book.specs.declared.ask.Ask.{Ask}
use Rattle.bay_book.specs.declared.ask.End.TheVariants.{LetGo}
use Rattle.bay_book.specs.declared.ask.Heard.TheVariants.{End as HeardEnd}
use Rattle.bay_book.specs.declared.ask.Mark.TheVariants.{None as NoLine, At}
use Rattle.bay_book.specs.declared.ask.Stage.TheVariants.{Waits, Over}
use Rattle.bay_book.specs.Asks.{is_over, is_owed, is_written}
use Rattle.bay_book.specs.Books.{BookView}
use Rattle.bay_log.specs.declared.line.Line.{Line}
use Rattle.bay_log.specs.Lines.{base_of, log_text}
use Rattle.bay_log.specs.Logs.{LogView}
use Rattle.bay_log.specs.Alive.{alive, begins}
use Rattle.bay.specs.Members.{Has}
use Rattle.bay.specs.Written.{is_given}
use Rattle.bay.specs.Pages.{IsLogged}

-- From this position on the lines say that this one holds nothing: by a beginning of them that is no longer than that it doesn't hold, and behind that it
-- doesn't begin to
pub record IsOutOfLog (lines : List Line) (number position : ℕ) : Type 0 where
  pub front : List Line
  pub rest : List Line
  pub is : lines ≡ front ++ rest
  pub so_far : length (log_text front) ≤ position - base_of lines
  pub none : alive front number ≡ None
  pub once : list_any (begins number) rest ≡ false

-- what the lines say of an ask that is over, or will be
pub record IsEndedAsk (lines : List Line) (durable : ℕ) (a : Ask) : Type 0 where
  -- if no line was given that it holds, none says so
  pub unused : is_given a.hold_line ≡ false → list_any (begins a.number) lines ≡ false
  -- who waits gave none
  pub waits : a.stage ≡ Waits → is_given a.hold_line ≡ false
  -- who isn't over gave no line of its end, and wasn't told of it
  pub goes_on : is_over a.stage ≡ false → (a.end_line ≡ NoLine) × (a.heard ≢ HeardEnd)
  -- whoever is over, and gave a line that it holds, gives one of its end
  pub ends : is_over a.stage ≡ true → is_given a.hold_line ≡ true → a.end_line ≢ NoLine
  -- from that one on it holds nothing
  pub ended : (position : ℕ) → a.end_line ≡ At position → IsOutOfLog lines a.number position
  -- who let go, and was told so: the line of its end outlives a crash, if there is one
  pub told : a.stage ≡ Over LetGo → a.heard ≡ HeardEnd → is_written durable a.end_line ≡ true

-- so it is with each; and no line says that one holds whose number wasn't given (the last of all numbers is never given)
pub record IsEnded (book : BookView) (lines : List Line) : Type 0 where
  pub each : (a : Ask) → Has book.asks a → IsEndedAsk lines book.durable a
  pub below : (n : ℕ) → book.next ≤ n → n ≢ 18446744073709551615 → list_any (begins n) lines ≡ false

-- what the log of a bay says of its asks
pub record AreInLog (book : BookView) (log : LogView) : Type 0 where
  pub held : IsLogged book log
  pub ended : IsEnded book log.lines

-- The number was given; whoever has it in the book is over, and owes no line that it holds; and from where the file is durable on, or before, the lines say
-- that it holds nothing
pub record IsPast (book : BookView) (lines : List Line) (number : ℕ) : Type 0 where
  pub given : number < book.next
  pub over : (a : Ask) → Has book.asks a → a.number ≡ number → (is_over a.stage ≡ true) × (is_owed a.hold_line ≡ false)
  pub out : IsOutOfLog lines number book.durable
