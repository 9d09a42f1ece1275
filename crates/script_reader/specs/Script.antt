-- For readers: what a script means, and its first fault. The lines before a line stand with the nearest first.
use Rattle.std.specs.Prelude.{ℕ, ◌≡◌, ◌+◌, Bool, true, false, ◌||◌, ◌&&◌, not, nat_le, List, [], ◌∷◌, ◌++◌}
use Rattle.std.specs.Prelude.{Option, None, Some, length, map, reverse, ◌⊎◌, Result, Ok, Err}
use Rattle.std.specs.List.{filter, filter_map, find, list_any, cons_option}
use Rattle.std.specs.Option.{option_map}
use Rattle.std.specs.Str.{bytes_eq}
use Rattle.bstr.specs.Text.{lines_of, without_terminator}
use Rattle.lab_plan.specs.Limits.{most_jobs, most_instruments, most_sessions, most_commands}
use Rattle.lab_plan.specs.LabPlan.{LabPlan}
use Rattle.lab_plan.specs.Names.{is_name}
use Rattle.lab_plan.specs.Building.{has_too_many_in_common}
use Rattle.script_reader.specs.Line.{Line, Header, Job, Session, PatientSession, Command, Steps, Unknown, form_of, is_header, is_lab_two}
use Rattle.script_reader.specs.Line.{is_job_line, is_session, is_command, is_end, job_name, instrument, name_in, number_in}
use Rattle.script_reader.specs.Number.{is_number}
use Rattle.script_reader.specs.Plan.{up_to_next, instruments_of, plan_of}
use Rattle.script_reader.specs.declared.fault.ScriptFault.{ScriptFault}
use Rattle.script_reader.specs.declared.fault.ScriptCause.{ScriptCause}
use Rattle.script_reader.specs.declared.fault.ScriptCause.TheVariants.{NoHeader, UnknownWord, SessionNotClosed, NotInJob, NotInSession, BadName}
use Rattle.script_reader.specs.declared.fault.ScriptCause.TheVariants.{BadNumber, JobTwice, EmptySession, LimitPassed, TooManyInCommon, NoMemory}

-- ---- what the lines before a line say

-- what an option has passes the test
abbrev pub has : {A : Type 0} → (A → Bool) → Option A → Bool
has test None = false
has test (Some x) = test x

abbrev pub is_empty : {A : Type 0} → List A → Bool
is_empty [] = true
is_empty (x ∷ xs) = false

-- a session is open if the nearest earlier line among job, session and end is a session line
abbrev pub is_open : List Line → Bool
is_open before = has is_session (find (λ line. is_job_line line || is_session line || is_end line) before)

-- the session has no command if the nearest earlier line among session and command is a session line
abbrev pub has_no_command : List Line → Bool
has_no_command before = has is_session (find (λ line. is_session line || is_command line) before)

abbrev pub count : (Line → Bool) → List Line → ℕ
count kind lines = length (filter kind lines)

-- an earlier job line has this name, or an earlier command line is on this instrument
abbrev pub is_job_there : List Line → List ℕ → Bool
is_job_there before name = list_any (bytes_eq name) (filter_map job_name before)

abbrev pub is_instrument_there : List Line → List ℕ → Bool
is_instrument_there before name = list_any (bytes_eq name) (filter_map instrument before)

-- how many instruments the lines name
abbrev pub instrument_count : List Line → ℕ
instrument_count before = length (instruments_of (reverse before))

-- ---- the causes of a fault

-- one more of its kind is past a limit: jobs, sessions of the job, commands, instruments
abbrev pub passes_limit : List Line → Line → Bool
passes_limit before (Job name) = nat_le most_jobs (count is_job_line before)
passes_limit before Session = nat_le most_sessions (count is_session (up_to_next is_job_line before))
passes_limit before (PatientSession number) = nat_le most_sessions (count is_session (up_to_next is_job_line before))
passes_limit before (Command name verb) =
    nat_le most_commands (count is_command before) || (not (is_instrument_there before name) && nat_le most_instruments (instrument_count before))
passes_limit before _ = false

-- the line has no form of its script: a second header, a patience in version 1, steps
abbrev pub has_no_form : List Line → Line → Bool
has_no_form before (Header version) = not (is_empty before)
has_no_form before (PatientSession number) = not (list_any is_lab_two before)
has_no_form before Steps = true
has_no_form before Unknown = true
has_no_form before _ = false

-- the line meets the cause
abbrev pub meets : List Line → Line → ScriptCause → Bool
meets before line NoHeader = not (is_header line) && is_empty before
meets before line UnknownWord = has_no_form before line
meets before line SessionNotClosed = (is_job_line line || is_session line) && is_open before
meets before line NotInJob = is_session line && not (list_any is_job_line before)
meets before line NotInSession = (is_command line || is_end line) && not (is_open before)
meets before line BadName = has (λ name. not (is_name name)) (name_in line)
meets before line BadNumber = has (λ number. not (is_number number)) (number_in line)
meets before line JobTwice = has (is_job_there before) (job_name line)
meets before line EmptySession = is_end line && has_no_command before
meets before line LimitPassed = passes_limit before line
meets before line _ = false

-- the end of the script meets the cause
abbrev pub meets_at_end : List Line → ScriptCause → Bool
meets_at_end before NoHeader = is_empty before
meets_at_end before SessionNotClosed = is_open before
meets_at_end before TooManyInCommon = has_too_many_in_common (plan_of (reverse before))
meets_at_end before _ = false

-- the order of the causes within a line
abbrev pub causes : List ScriptCause
causes = NoHeader ∷ UnknownWord ∷ SessionNotClosed ∷ NotInJob ∷ NotInSession
    ∷ BadName ∷ BadNumber ∷ JobTwice ∷ EmptySession ∷ LimitPassed ∷ TooManyInCommon ∷ []

-- the first cause that the line meets, and that the end meets
abbrev pub cause_at : List Line → Line → Option ScriptCause
cause_at before line = find (meets before line) causes

abbrev pub cause_at_end : List Line → Option ScriptCause
cause_at_end before = find (meets_at_end before) causes

-- no line meets a cause; the nearest stands first
abbrev pub AreSound : List Line → Type 0
AreSound [] = Unit {0}
AreSound (line ∷ before) = (cause_at before line ≡ None) × AreSound before

-- ---- scripts

-- the lines of a text, without their ends
abbrev pub text_lines : List ℕ → List (List ℕ)
text_lines text = map without_terminator (lines_of text)

-- the lines that have a form, each with its number
abbrev pub numbered : {B : Type 0} → (List ℕ → Option B) → ℕ → List (List ℕ) → List (ℕ × B)
numbered form number [] = []
numbered form number (line ∷ lines) = cons_option (option_map (λ found. (number, found)) (form line)) (numbered form (number + 1) lines)

-- the lines that aren't skipped, each with its number
abbrev pub script_of : List (List ℕ) → List (ℕ × Line)
script_of lines = numbered form_of 1 lines

-- the lines of a script, the nearest first
abbrev pub backwards : List (ℕ × Line) → List Line
backwards script = reverse (map (λ placed. placed.1) script)

-- the lines are a script, and this is its plan
abbrev pub LinesMean : List (List ℕ) → LabPlan → Type 0
LinesMean lines plan =
    let before = backwards (script_of lines) in
    AreSound before × (cause_at_end before ≡ None) × (plan ≡ plan_of (reverse before))

-- the line with this number is the first that meets a cause, and this is its first
abbrev pub IsFaultAtLine : List (List ℕ) → ℕ → ScriptCause → Type 0
IsFaultAtLine lines number cause =
    (front : List (ℕ × Line)) × (line : Line) × (back : List (ℕ × Line))
    × (script_of lines ≡ front ++ (number, line) ∷ back) × AreSound (backwards front) × (cause_at (backwards front) line ≡ Some cause)

-- no line meets a cause, and this is the first that the end meets
abbrev pub IsFaultAtEnd : List (List ℕ) → ℕ → ScriptCause → Type 0
IsFaultAtEnd lines number cause =
    let before = backwards (script_of lines) in
    AreSound before × (cause_at_end before ≡ Some cause) × (number ≡ length lines + 1)

abbrev pub IsFaultOfLines : List (List ℕ) → ℕ → ScriptCause → Type 0
IsFaultOfLines lines number cause = IsFaultAtLine lines number cause ⊎ IsFaultAtEnd lines number cause

-- no line up to the one with this number meets a cause, nor does the end if it is the end's number
abbrev pub IsCleanUpToLine : List (List ℕ) → ℕ → Type 0
IsCleanUpToLine lines number =
    (front : List (ℕ × Line)) × (line : Line) × (back : List (ℕ × Line))
    × (script_of lines ≡ front ++ (number, line) ∷ back) × AreSound (line ∷ backwards front)

abbrev pub IsCleanUpToEnd : List (List ℕ) → ℕ → Type 0
IsCleanUpToEnd lines number =
    let before = backwards (script_of lines) in
    AreSound before × (cause_at_end before ≡ None) × (number ≡ length lines + 1)

abbrev pub IsCleanUpTo : List (List ℕ) → ℕ → Type 0
IsCleanUpTo lines number = IsCleanUpToLine lines number ⊎ IsCleanUpToEnd lines number

-- the text is a script, and this is its plan
abbrev pub ScriptMeans : List ℕ → LabPlan → Type 0
ScriptMeans text plan = LinesMean (text_lines text) plan

-- the text is no script, and this is its fault
abbrev pub ScriptFaults : List ℕ → ℕ → ScriptCause → Type 0
ScriptFaults text number cause = IsFaultOfLines (text_lines text) number cause

-- why some lines are refused: their fault, or that memory ran out before there was one
abbrev pub Refuses : List (List ℕ) → ScriptFault → Type 0
Refuses lines fault = ((fault.cause ≡ NoMemory) × IsCleanUpTo lines fault.line) ⊎ IsFaultOfLines lines fault.line fault.cause

-- what a reader answers
abbrev pub Answers : List ℕ → Result LabPlan ScriptFault → Type 0
Answers text (Ok plan) = ScriptMeans text plan
Answers text (Err fault) = Refuses (text_lines text) fault
