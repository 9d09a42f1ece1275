-- What a reader knows after some lines, and what it does at one more. The lines before stand with the nearest first.
use Rattle.std.specs.Prelude.{ℕ, ◌≡◌, Bool, true, false, not, nat_le, nat_lt, List, reverse, Option, None, Some, Result, Ok, Err, length, if◌then◌else◌}
use Rattle.std.specs.List.{list_any}
use Rattle.lab_plan.specs.Limits.{most_jobs, most_sessions}
use Rattle.lab_plan.specs.LabPlan.{LabPlan}
use Rattle.lab_plan.specs.Names.{is_name}
use Rattle.lab_plan.specs.Building.{empty_plan, with_job, with_session, with_command, last_job}
use Rattle.lab_plan.specs.Building.{has_session, is_bare, is_job, is_past_limit, has_too_many_in_common}
use Rattle.script_reader.specs.declared.fault.ScriptCause.{ScriptCause}
use Rattle.script_reader.specs.declared.fault.ScriptCause.TheVariants.{NoHeader, UnknownWord, SessionNotClosed, NotInJob, NotInSession, BadName}
use Rattle.script_reader.specs.declared.fault.ScriptCause.TheVariants.{BadNumber, JobTwice, EmptySession, LimitPassed, TooManyInCommon, NoMemory}
use Rattle.script_reader.specs.declared.form.Version.{Version}
use Rattle.script_reader.specs.declared.form.Version.TheVariants.{One, Two}
use Rattle.script_reader.specs.Line.{Line, Header, Job, Session, PatientSession, Command, End, Steps, Unknown, verb_number, is_lab_two}
use Rattle.script_reader.specs.Number.{is_number, number_of}
use Rattle.script_reader.specs.Plan.{plan_of, verb_of}
use Rattle.script_reader.specs.Script.{is_open, has_no_command, is_empty, has}

-- fresh before the first line; the header's version; in a session, bare while that has no command; and the plan so far
pub record State : Type 0 where
  pub fresh : Bool
  pub version : Version
  pub in_session : Bool
  pub bare : Bool
  pub plan : LabPlan

-- the version that the header gives
abbrev pub header_version : List Line → Version
header_version before = if list_any is_lab_two before then Two else One

abbrev pub is_two : Version → Bool
is_two One = false
is_two Two = true

abbrev pub version_number : Version → ℕ
version_number One = 1
version_number Two = 2

abbrev pub state_of : List Line → State
state_of before = record {
  fresh = is_empty before;
  version = header_version before;
  in_session = is_open before;
  bare = has_no_command before;
  plan = plan_of (reverse before);
}

-- what holds between two lines
pub record IsTied (s : State) : Type 0 where
  pub closed : s.in_session ≡ false → s.bare ≡ false
  pub within : s.in_session ≡ true → has_session s.plan ≡ true
  pub bare : s.bare ≡ is_bare s.plan
  pub version : s.plan.version ≡ version_number s.version

-- a cause if the test holds, or else the rest
abbrev pub at : Bool → ScriptCause → Option ScriptCause → Option ScriptCause
at test cause rest = if test then Some cause else rest

abbrev pub session_cause : State → Option ScriptCause → Option ScriptCause
session_cause s rest = at s.in_session SessionNotClosed (at (not (nat_lt 0 (length s.plan.jobs))) NotInJob rest)

abbrev pub many_sessions : State → Option ScriptCause
many_sessions s = at (nat_le most_sessions (length (last_job s.plan).sessions)) LimitPassed None

-- the cause that the next line meets
abbrev pub cause_in : State → Line → Option ScriptCause
cause_in s (Header version) = at (not s.fresh) UnknownWord None
cause_in s (Job name) =
    at s.fresh NoHeader (at s.in_session SessionNotClosed
    (at (not (is_name name)) BadName (at (is_job name s.plan) JobTwice (at (nat_le most_jobs (length s.plan.jobs)) LimitPassed None))))
cause_in s Session = at s.fresh NoHeader (session_cause s (many_sessions s))
cause_in s (PatientSession number) =
    at s.fresh NoHeader (at (not (is_two s.version)) UnknownWord (session_cause s (at (not (is_number number)) BadNumber (many_sessions s))))
cause_in s (Command name verb) =
    at s.fresh NoHeader (at (not s.in_session) NotInSession (at (not (is_name name)) BadName
    (at (has (λ number. not (is_number number)) (verb_number verb)) BadNumber (at (is_past_limit name s.plan) LimitPassed None))))
cause_in s End = at s.fresh NoHeader (at (not s.in_session) NotInSession (at s.bare EmptySession None))
cause_in s Steps = at s.fresh NoHeader (Some UnknownWord)
cause_in s Unknown = at s.fresh NoHeader (Some UnknownWord)

-- the cause that the end meets
abbrev pub end_cause_in : State → Option ScriptCause
end_cause_in s = at s.fresh NoHeader (at s.in_session SessionNotClosed (at (has_too_many_in_common s.plan) TooManyInCommon None))

-- the state behind the next line
abbrev pub after : State → Line → State
after s (Header version) = record { fresh = false; version = version; in_session = false; bare = false; plan = empty_plan (version_number version) }
after s (Job name) = record s { plan = with_job name s.plan }
after s Session = record s { in_session = true; bare = true; plan = with_session None s.plan }
after s (PatientSession number) = record s { in_session = true; bare = true; plan = with_session (Some (number_of number)) s.plan }
after s (Command name verb) = record s { bare = false; plan = with_command name (verb_of verb) s.plan }
after s End = record s { in_session = false }
after s Steps = s
after s Unknown = s

-- what the reader answers at a line that isn't skipped, and what it knows then
abbrev pub Takes : State → Line → Result (Unit {0}) ScriptCause → State → Type 0
Takes old line (Ok _) new = (cause_in old line ≡ None) × (new ≡ after old line)
Takes old line (Err NoMemory) new = cause_in old line ≡ None
Takes old line (Err cause) new = cause_in old line ≡ Some cause

-- the same at any line of the text, skipped or not
abbrev pub ReadsForm : State → Option Line → Result (Unit {0}) ScriptCause → State → Type 0
ReadsForm old None (Ok _) new = new ≡ old
ReadsForm old None (Err cause) new = ⊥
ReadsForm old (Some line) result new = Takes old line result new

-- what the reader answers at the end
abbrev pub Ends : State → Result LabPlan ScriptCause → Type 0
Ends s (Ok plan) = (end_cause_in s ≡ None) × (plan ≡ s.plan)
Ends s (Err NoMemory) = end_cause_in s ≡ None
Ends s (Err cause) = end_cause_in s ≡ Some cause
