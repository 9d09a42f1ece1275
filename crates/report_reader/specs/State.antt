-- For readers: what is known of a report after some of its lines, and which line may be next.
use Rattle.std.specs.Prelude.{ℕ, ◌≡◌, ◌-◌, Bool, true, false, ◌&&◌, ◌||◌, not, nat_lt, ◌==◌, List, [], ◌∷◌}
use Rattle.std.specs.Prelude.{◌++◌, Option, None, Some, Result, Ok, Err, length, if◌then◌else◌}
use Rattle.std.specs.List.{list_all}
use Rattle.std.specs.Option.{is_some}
use Rattle.lab_plan.specs.Building.{on_last}
use Rattle.report_reader.specs.declared.fault.ReportCause.{ReportCause}
use Rattle.report_reader.specs.declared.fault.ReportCause.TheVariants.{UnknownLine, OutOfPlace, OtherVersion, WrongEnd, NotWhole, NoMemory}
use Rattle.report_reader.specs.Line.{Line, Header, Instrument, Entry, Job, Last, EntryText, JobText}
use Rattle.report_reader.specs.Report.{LogText, ReportText}

-- the version, once the header stands; the logs; how many entries are due in the last of them; the jobs; and the last line, once it stands
pub record State : Type 0 where
  pub version : Option ℕ
  pub logs : List LogText
  pub due : ℕ
  pub jobs : List JobText
  pub last : Option Bool

abbrev pub opening : State
opening = record { version = None; logs = []; due = 0; jobs = []; last = None }

abbrev pub at : Bool → ReportCause → Option ReportCause → Option ReportCause
at test cause rest = if test then Some cause else rest

abbrev pub is_two : Option ℕ → Bool
is_two None = false
is_two (Some version) = version == 2

abbrev pub is_same : Bool → Bool → Bool
is_same true b = b
is_same false b = not b

abbrev pub all_retired : List JobText → Bool
all_retired jobs = list_all (λ (job : JobText). job.is_retired) jobs

-- between the header and the last line
abbrev pub is_within : State → Bool
is_within s = is_some s.version && not (is_some s.last)

-- an entry is due
abbrev pub is_due : State → Bool
is_due s = nat_lt 0 s.due && nat_lt 0 (length s.logs)

-- the cause that the next line meets
unfoldable pub cause_in : State → Line → Option ReportCause
cause_in s (Header version) = at (is_some s.version) OutOfPlace None
cause_in s (Instrument name entries) = at (not (is_within s) || nat_lt 0 s.due || nat_lt 0 (length s.jobs)) OutOfPlace None
cause_in s (Entry entry) = at (not (is_within s) || not (is_due s)) OutOfPlace None
cause_in s (Job job) = at (not (is_within s) || nat_lt 0 s.due) OutOfPlace (at (not (is_same (is_some job.withdrawn) (is_two s.version))) OtherVersion None)
cause_in s (Last is_finished) = at (not (is_within s) || nat_lt 0 s.due) OutOfPlace (at (not (is_same is_finished (all_retired s.jobs))) WrongEnd None)

abbrev pub with_entry : EntryText → LogText → LogText
with_entry entry log = record log { entries = log.entries ++ entry ∷ [] }

-- what is known behind it
unfoldable pub after : State → Line → State
after s (Header version) = record s { version = Some version }
after s (Instrument name entries) = record s { logs = s.logs ++ record { name = name; entries = [] } ∷ []; due = entries }
after s (Entry entry) = record s { logs = on_last (with_entry entry) s.logs; due = s.due - 1 }
after s (Job job) = record s { jobs = s.jobs ++ job ∷ [] }
after s (Last is_finished) = record s { last = Some is_finished }

-- what a reader answers at a line, and what it knows then
abbrev pub Takes : State → Line → Result (Unit {0}) ReportCause → State → Type 0
Takes old line (Ok _) new = (cause_in old line ≡ None) × (new ≡ after old line)
Takes old line (Err NoMemory) new = Unit {0}
Takes old line (Err cause) new = cause_in old line ≡ Some cause

-- the same for words that need not be a line
abbrev pub Reads : State → Option Line → Result (Unit {0}) ReportCause → State → Type 0
Reads old (Some line) result new = Takes old line result new
Reads old None (Ok _) new = ⊥
Reads old None (Err NoMemory) new = Unit {0}
Reads old None (Err cause) new = cause ≡ UnknownLine

-- what it answers at the end, behind the last line feed
abbrev pub Ends : State → Result ReportText ReportCause → Type 0
Ends s (Ok report) = (s.version ≡ Some report.version) × (s.last ≡ Some report.is_finished) × (report.logs ≡ s.logs) × (report.jobs ≡ s.jobs)
Ends s (Err cause) = (cause ≡ NotWhole) × (is_some s.version && is_some s.last ≡ false)
