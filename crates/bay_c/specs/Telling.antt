-- For readers: what C hands in, and what it is told, number by number.
use Rattle.std.specs.Prelude.{ℕ, ◌+◌, ◌*◌, ◌/◌, ◌%◌, ◌==◌, not, if◌then◌else◌, Option, Some, None}
use Rattle.bay_book.specs.declared.ask.End.TheVariants.{LetGo, Left, Lapsed, NotWritten, Limit, Grace, TakenAway, Replaced, Stopped as EndStopped}
use Rattle.bay_book.specs.declared.ask.Ask.{Ask}
use Rattle.bay_book.specs.declared.ask.Outcome.{Outcome}
use Rattle.bay_book.specs.declared.ask.Outcome.TheVariants.{Holds, Over as IsOver}
use Rattle.bay_book.specs.declared.ask.Stage.{Stage}
use Rattle.bay_book.specs.declared.ask.Stage.TheVariants.{Waits as IsWaiting, Holds as IsHolding, Over as IsEnded}
use Rattle.bay.specs.declared.classes.Class.{Class}
use Rattle.bay.specs.declared.request.NotAsked.{NotAsked}
use Rattle.bay.specs.declared.request.NotAsked.TheVariants.{Stopped, Number, NoClass, Empty, MayNotUse, OwnerTaken, LineFull, NoMemory}
use Rattle.bay.specs.declared.request.NotHeld.{NotHeld}
use Rattle.bay.specs.declared.request.NotHeld.TheVariants.{Over, Waits}
use Rattle.bay.specs.declared.request.Request.{Request}
use Rattle.bay.specs.declared.request.Urgency.{Urgency}
use Rattle.bay.specs.declared.request.Urgency.TheVariants.{Usual, Urgent}
use Rattle.bay.specs.declared.bay.NotOpened.{NotOpened}
use Rattle.bay.specs.declared.bay.NotOpened.TheVariants.{Classes, NoMemory as NotOpenedMemory}
use Rattle.bay.specs.declared.bay.NotNoted.{NotNoted}
use Rattle.bay.specs.declared.bay.NotNoted.TheVariants.{NotHeld as NotNotedHeld, NoText, NoMemory as NotNotedMemory}
use Rattle.bay.specs.declared.restoring.NotBack.{NotBack}
use Rattle.bay.specs.declared.restoring.NotBack.TheVariants.{NoMemory as NotBackMemory, NoPlace, Line, Another, Classes as NotBackClasses, MayNot}
use Rattle.bay.specs.declared.telling.Told.{Told}
use Rattle.bay.specs.declared.turning.NotTurned.{NotTurned}
use Rattle.bay.specs.declared.turning.NotTurned.TheVariants.{Classes as NotTurnedClasses, NotYet, MayNot as MayNotGoOn, NoRoom, NoMemory as NotTurnedMemory}
use Rattle.bay.specs.declared.terms.Terms.{Terms}
use Rattle.bay_c.specs.declared.told.BayClass.{BayClass}
use Rattle.bay_c.specs.declared.told.BayTerms.{BayTerms}
use Rattle.bay_c.specs.declared.told.BayAsked.{BayAsked}
use Rattle.bay_c.specs.declared.told.BayOutcome.{BayOutcome}
use Rattle.bay_c.specs.declared.told.BayStanding.{BayStanding}

-- the greatest number is no moment, and no limit
abbrev pub moment : ℕ → Option ℕ
moment n = if n == 18446744073709551615 then None else Some n

abbrev pub class_of : BayClass → Class
class_of c = record { uses = c.uses; places = c.places }

abbrev pub terms_of : BayTerms → Terms
terms_of t = record { grace = moment t.grace; disk = moment t.disk; keeps = not (t.keeps == 0) }

-- urgent, but for 0
abbrev pub urgency_of : ℕ → Urgency
urgency_of n = if n == 0 then Usual else Urgent

abbrev pub request_of : BayAsked → Request
request_of a = record {
  number = a.number;
  class = a.class;
  owner = a.owner_high * 18446744073709551616 + a.owner_low;
  deadline = moment a.deadline;
  limit = moment a.limit;
  urgency = urgency_of a.urgent;
}

-- it holds (0), or how it is over
abbrev pub what_of : Outcome → ℕ
what_of Holds = 0
what_of (IsOver LetGo) = 1
what_of (IsOver Left) = 2
what_of (IsOver Lapsed) = 3
what_of (IsOver NotWritten) = 4
what_of (IsOver Limit) = 5
what_of (IsOver Grace) = 6
what_of (IsOver TakenAway) = 7
what_of (IsOver Replaced) = 8
what_of (IsOver EndStopped) = 9

abbrev pub outcome_of : Told → BayOutcome
outcome_of t = record { serial = t.serial; number = t.number; needs = t.needs; token = t.token; what = what_of t.outcome; unused = 0 }

-- it holds (0), is over, and how (1 to 9), or waits (10)
abbrev pub stage_of : Stage → ℕ
stage_of IsHolding = what_of Holds
stage_of (IsEnded end) = what_of (IsOver end)
stage_of IsWaiting = 10

abbrev pub standing_of : Ask → BayStanding
standing_of a = record {
  number = a.number;
  owner_high = a.owner / 18446744073709551616;
  owner_low = a.owner % 18446744073709551616;
  needs = a.needs;
  since = a.since;
  token = a.token;
  class = a.class;
  what = stage_of a.stage;
}

-- ---- statuses

abbrev pub refusal_status : NotAsked → ℕ
refusal_status Stopped = 21
refusal_status Number = 20
refusal_status NoClass = 22
refusal_status Empty = 23
refusal_status MayNotUse = 24
refusal_status OwnerTaken = 29
refusal_status LineFull = 25
refusal_status NoMemory = 5

-- it waits (8); or it is over, or nobody ever asked so (26)
abbrev pub not_held_status : NotHeld → ℕ
not_held_status Waits = 8
not_held_status Over = 26

abbrev pub not_opened_status : NotOpened → ℕ
not_opened_status Classes = 22
not_opened_status NotOpenedMemory = 5

abbrev pub not_noted_status : NotNoted → ℕ
not_noted_status NotNotedHeld = 8
not_noted_status NoText = 24
not_noted_status NotNotedMemory = 5

-- the number of a moment; the greatest one if there is none
abbrev pub number_of : Option ℕ → ℕ
number_of (Some n) = n
number_of None = 18446744073709551615

abbrev pub not_back_status : NotBack → ℕ
not_back_status NotBackMemory = 5
not_back_status NoPlace = 28
not_back_status (Line number) = 28
not_back_status Another = 27
not_back_status NotBackClasses = 22
not_back_status (MayNot ask) = 24

-- the line of the file that isn't sound, or the number of the ask that may not hold; else 0
abbrev pub not_back_number : NotBack → ℕ
not_back_number NotBackMemory = 0
not_back_number NoPlace = 0
not_back_number (Line number) = number
not_back_number Another = 0
not_back_number NotBackClasses = 0
not_back_number (MayNot ask) = ask

abbrev pub not_turned_status : NotTurned → ℕ
not_turned_status NotTurnedClasses = 22
not_turned_status NotYet = 8
not_turned_status (MayNotGoOn ask) = 24
not_turned_status (NoRoom size) = 6
not_turned_status NotTurnedMemory = 5

-- how long the text is for which there is no room; else what was told before
abbrev pub not_turned_size : ℕ → NotTurned → ℕ
not_turned_size told NotTurnedClasses = told
not_turned_size told NotYet = told
not_turned_size told (MayNotGoOn ask) = told
not_turned_size told (NoRoom size) = size
not_turned_size told NotTurnedMemory = told

-- the number of the ask that may not go on; else what was told before
abbrev pub not_turned_number : ℕ → NotTurned → ℕ
not_turned_number told NotTurnedClasses = told
not_turned_number told NotYet = told
not_turned_number told (MayNotGoOn ask) = ask
not_turned_number told (NoRoom size) = told
not_turned_number told NotTurnedMemory = told
