-- For readers: further sessions for a job of a plan, as a text has them: what they are, and the first fault.
use Rattle.std.specs.Prelude.{ℕ, ◌≡◌, ◌⊎◌, ◌<◌, ◌+◌, ◌-◌, ◌==◌, Bool, true, false, ◌&&◌, not, nat_le, List, [], ◌∷◌, ◌++◌}
use Rattle.std.specs.Prelude.{Option, None, Some, Result, Ok, Err, length, slice_index_or}
use Rattle.lab_plan.specs.declared.verb.Verb.{Verb}
use Rattle.lab_plan.specs.Limits.{most_sessions, most_commands}
use Rattle.lab_plan.specs.LabPlan.{LabPlan, SessionPlan, no_session, sessions, names, all_commands}
use Rattle.lab_plan.specs.IsPlan.{IsPlan}
use Rattle.lab_plan.specs.Names.{is_name}
use Rattle.lab_plan.specs.Cuts.{commands_of}
use Rattle.lab_plan.specs.Building.{on_last, and_command, is_instrument, instrument_number}
use Rattle.lab_plan.specs.Longer.{session_of, with_one_more, more_refusal}
use Rattle.script_reader.specs.declared.fault.ScriptFault.{ScriptFault}
use Rattle.script_reader.specs.declared.fault.ScriptCause.{ScriptCause}
use Rattle.script_reader.specs.declared.fault.ScriptCause.TheVariants.{UnknownWord, SessionNotClosed, NotInSession, BadName, BadNumber}
use Rattle.script_reader.specs.declared.fault.ScriptCause.TheVariants.{EmptySession, LimitPassed, NoMemory, NotItsOwn}
use Rattle.script_reader.specs.Line.{Line, Session, PatientSession, Command, End, form_of, verb_number}
use Rattle.script_reader.specs.Number.{is_number, number_of}
use Rattle.script_reader.specs.Plan.{verb_of}
use Rattle.script_reader.specs.Script.{has, text_lines}
use Rattle.script_reader.specs.State.{at}

-- what some lines say: the sessions, and whether the last of them is still open to commands
pub record SessionsSoFar : Type 0 where
  pub in_session : Bool
  pub sessions : List SessionPlan

-- before the first line
abbrev pub no_sessions : SessionsSoFar
no_sessions = record { in_session = false; sessions = [] }

-- ---- what a line adds

-- one more session
abbrev pub with_begun : Option ℕ → SessionsSoFar → SessionsSoFar
with_begun patience s = record { in_session = true; sessions = s.sessions ++ session_of patience [] ∷ [] }

-- one more command of the last session
abbrev pub with_more : ℕ → Verb → SessionsSoFar → SessionsSoFar
with_more i verb s = record s { sessions = on_last (and_command i verb) s.sessions }

-- what the lines say with one more line
abbrev pub more_after : LabPlan → SessionsSoFar → Option Line → SessionsSoFar
more_after plan s (Some Session) = with_begun None s
more_after plan s (Some (PatientSession number)) = with_begun (Some (number_of number)) s
more_after plan s (Some (Command name verb)) = with_more (instrument_number name plan) (verb_of verb) s
more_after plan s (Some End) = record s { in_session = false }
more_after plan s _ = s

-- ---- the causes of a fault

-- the job has, with the sessions so far, as many as it may have, and the plan as many commands
abbrev pub has_all_sessions : LabPlan → ℕ → SessionsSoFar → Bool
has_all_sessions plan j s = nat_le most_sessions (length (sessions plan j) + length s.sessions)

abbrev pub has_all_commands : LabPlan → SessionsSoFar → Bool
has_all_commands plan s = nat_le most_commands (length (all_commands plan) + length (commands_of s.sessions))

-- it is the name of an instrument that a session of the plan's job names
abbrev pub is_its_own : LabPlan → ℕ → List ℕ → Bool
is_its_own plan j name = is_instrument name plan && names plan j (instrument_number name plan)

-- the last session has no command
abbrev pub is_last_empty : SessionsSoFar → Bool
is_last_empty s = length (slice_index_or s.sessions (length s.sessions - 1) no_session).commands == 0

-- the first cause that a line meets; a line that is skipped meets none
abbrev pub more_cause : LabPlan → ℕ → SessionsSoFar → Option Line → Option ScriptCause
more_cause plan j s None = None
more_cause plan j s (Some Session) = at s.in_session SessionNotClosed (at (has_all_sessions plan j s) LimitPassed None)
more_cause plan j s (Some (PatientSession number)) =
    at (not (plan.version == 2)) UnknownWord (at s.in_session SessionNotClosed
    (at (not (is_number number)) BadNumber (at (has_all_sessions plan j s) LimitPassed None)))
more_cause plan j s (Some (Command name verb)) =
    at (not s.in_session) NotInSession (at (not (is_name name)) BadName
    (at (has (λ number. not (is_number number)) (verb_number verb)) BadNumber
    (at (has_all_commands plan s) LimitPassed (at (not (is_its_own plan j name)) NotItsOwn None))))
more_cause plan j s (Some End) = at (not s.in_session) NotInSession (at (is_last_empty s) EmptySession None)
more_cause plan j s (Some _) = Some UnknownWord

-- the first cause that the end of the text meets: the last session is open, or there is none
abbrev pub more_end_cause : SessionsSoFar → Option ScriptCause
more_end_cause s = at s.in_session SessionNotClosed (at (length s.sessions == 0) EmptySession None)

-- ---- texts

-- the fault with this cause at the line with this number, or else the rest
abbrev pub fault_or : {X : Type 0} → Option ScriptCause → ℕ → Result X ScriptFault → Result X ScriptFault
fault_or None number rest = rest
fault_or (Some cause) number rest = Err (record { line = number; cause = cause })

-- what lines give behind those that were read; the first of them has this number
abbrev pub more_in : LabPlan → ℕ → ℕ → SessionsSoFar → List (List ℕ) → Result (List SessionPlan) ScriptFault
more_in plan j number s [] = fault_or (more_end_cause s) number (Ok s.sessions)
more_in plan j number s (line ∷ lines) =
    fault_or (more_cause plan j s (form_of line)) number (more_in plan j (number + 1) (more_after plan s (form_of line)) lines)

-- the sessions that the text has for job j, or its fault
abbrev pub sessions_in : LabPlan → ℕ → List ℕ → Result (List SessionPlan) ScriptFault
sessions_in plan j text = more_in plan j 1 no_sessions (text_lines text)

-- no line up to the one with this number has the text's fault
abbrev pub IsCleanThrough : LabPlan → ℕ → List ℕ → ℕ → Type 0
IsCleanThrough plan j text number = (fault : ScriptFault) → sessions_in plan j text ≡ Err fault → number < fault.line

-- what a reader answers: the sessions; or the fault, or that memory ran out before there was one
abbrev pub AnswersMore : LabPlan → ℕ → List ℕ → Result (List SessionPlan) ScriptFault → Type 0
AnswersMore plan j text (Ok further) = sessions_in plan j text ≡ Ok further
AnswersMore plan j text (Err fault) = ((fault.cause ≡ NoMemory) × IsCleanThrough plan j text fault.line) ⊎ (sessions_in plan j text ≡ Err fault)

-- the plan takes each of the sessions behind those before it, if there is memory
abbrev pub AreGranted : LabPlan → ℕ → List SessionPlan → Type 0
AreGranted plan j [] = Unit {0}
AreGranted plan j (session ∷ further) = (more_refusal plan j session ≡ None) × AreGranted (with_one_more plan j session) j further

-- the sessions that a text has for a job are taken one behind the other
abbrev pub SessionsAreGranted : Type 0
SessionsAreGranted = (plan : LabPlan) (j : ℕ) (text : List ℕ) (further : List SessionPlan) → IsPlan plan → j < length plan.jobs
    → sessions_in plan j text ≡ Ok further → AreGranted plan j further

-- what a reader answers at a line, and what it knows then
abbrev pub TakesMore : LabPlan → ℕ → SessionsSoFar → Option Line → Result (Unit {0}) ScriptCause → SessionsSoFar → Type 0
TakesMore plan j old line (Ok _) new = (more_cause plan j old line ≡ None) × (new ≡ more_after plan old line)
TakesMore plan j old line (Err NoMemory) new = more_cause plan j old line ≡ None
TakesMore plan j old line (Err cause) new = more_cause plan j old line ≡ Some cause
