-- The plan that some lines describe.
use Rattle.std.specs.Prelude.{ℕ, Bool, not, List, [], ◌∷◌, Option, None, Some, if◌then◌else◌}
use Rattle.std.specs.List.{filter, filter_map, list_any, position_or_len}
use Rattle.std.specs.Str.{bytes_eq}
use Rattle.lab_plan.specs.declared.verb.Verb.{Verb}
use Rattle.lab_plan.specs.declared.verb.Verb.TheVariants.{Set, Add, Read}
use Rattle.lab_plan.specs.LabPlan.{SessionPlan, JobPlan, LabPlan}
use Rattle.script_reader.specs.Line.{Line, Job, PatientSession, Command, VerbText, Sets, Adds, Reads, is_lab_two, is_job_line, is_session, instrument}
use Rattle.script_reader.specs.Number.{number_of}

-- the lines up to the next of a kind
abbrev pub up_to_next : {A : Type 0} → (A → Bool) → List A → List A
up_to_next kind [] = []
up_to_next kind (line ∷ lines) = if kind line then [] else line ∷ up_to_next kind lines

-- each line of a kind, with the lines that belong to it: those up to the next of the kind
abbrev pub each_with_its_lines : {B : Type 0} → (Line → Bool) → (Line → List Line → B) → List Line → List B
each_with_its_lines kind make [] = []
each_with_its_lines kind make (line ∷ lines) =
    if kind line then make line (up_to_next kind lines) ∷ each_with_its_lines kind make lines else each_with_its_lines kind make lines

abbrev pub verb_of : VerbText → Verb
verb_of (Sets number) = Set (number_of number)
verb_of (Adds number) = Add (number_of number)
verb_of Reads = Read

-- an instrument's number is its place among the names
abbrev pub command_of : List (List ℕ) → Line → Option (ℕ × Verb)
command_of names (Command name verb) = Some (position_or_len (bytes_eq name) names, verb_of verb)
command_of names _ = None

abbrev pub patience_of : Line → Option ℕ
patience_of (PatientSession number) = Some (number_of number)
patience_of _ = None

abbrev pub name_of : Line → List ℕ
name_of (Job name) = name
name_of _ = []

abbrev pub session_of : List (List ℕ) → Line → List Line → SessionPlan
session_of names line lines = record { patience = patience_of line; commands = filter_map (command_of names) lines }

abbrev pub job_of : List (List ℕ) → Line → List Line → JobPlan
job_of names line lines = record { name = name_of line; sessions = each_with_its_lines is_session (session_of names) lines }

-- the jobs are the job lines, each with the session lines up to the next job line, and these with their command lines
abbrev pub jobs_of : List (List ℕ) → List Line → List JobPlan
jobs_of names lines = each_with_its_lines is_job_line (job_of names) lines

-- the first of each name
abbrev pub first_namings : List (List ℕ) → List (List ℕ)
first_namings [] = []
first_namings (name ∷ names) = name ∷ filter (λ other. not (bytes_eq name other)) (first_namings names)

-- the instruments, in order of their first naming
abbrev pub instruments_of : List Line → List (List ℕ)
instruments_of lines = first_namings (filter_map instrument lines)

-- the version that the header gives
abbrev pub version_of : List Line → ℕ
version_of lines = if list_any is_lab_two lines then 2 else 1

-- the plan, with each instrument by its number
abbrev pub plan_of : List Line → LabPlan
plan_of lines = record { version = version_of lines; jobs = jobs_of (instruments_of lines) lines; instruments = instruments_of lines }
