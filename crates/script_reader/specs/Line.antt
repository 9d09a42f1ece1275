-- For readers: the forms of a line that isn't skipped.
use Rattle.std.specs.Prelude.{ℕ, Bool, true, false, List, [], ◌∷◌, Option, None, Some, ◌==◌, codes, if◌then◌else◌, slice_index}
use Rattle.std.specs.Str.{bytes_eq}
use Rattle.script_reader.specs.declared.form.Version.{Version}
use Rattle.script_reader.specs.declared.form.Version.TheVariants.{One, Two}
use Rattle.script_reader.specs.Fields.{fields}

-- a verb, with its number as it is spelled
pub data VerbText : Type 0 where
  Sets : (number : List ℕ) → VerbText
  Adds : (number : List ℕ) → VerbText
  Reads : VerbText

-- a line, with its names and numbers as they are spelled
pub data Line : Type 0 where
  Header : (version : Version) → Line
  Job : (name : List ℕ) → Line
  Session : Line
  PatientSession : (number : List ℕ) → Line
  Command : (name : List ℕ) → (verb : VerbText) → Line
  End : Line
  Steps : Line
  Unknown : Line

-- ---- the form of a line, by its fields

-- `lab 1` or `lab 2`
abbrev pub lab_line : List (List ℕ) → Line
lab_line (version ∷ []) = if bytes_eq version (codes "1") then Header One else (if bytes_eq version (codes "2") then Header Two else Unknown)
lab_line _ = Unknown

-- `job NAME`
abbrev pub job_line : List (List ℕ) → Line
job_line (name ∷ []) = Job name
job_line _ = Unknown

-- `session` or `session patience N`
abbrev pub session_line : List (List ℕ) → Line
session_line [] = Session
session_line (word ∷ number ∷ []) = if bytes_eq word (codes "patience") then PatientSession number else Unknown
session_line _ = Unknown

-- a word that stands alone
abbrev pub alone : Line → List (List ℕ) → Line
alone line [] = line
alone line _ = Unknown

-- `NAME read`, `NAME set N` or `NAME add N`
abbrev pub command_line : List ℕ → List (List ℕ) → Line
command_line name (verb ∷ []) = if bytes_eq verb (codes "read") then Command name Reads else Unknown
command_line name (verb ∷ number ∷ []) =
    if bytes_eq verb (codes "set") then Command name (Sets number) else (if bytes_eq verb (codes "add") then Command name (Adds number) else Unknown)
command_line name _ = Unknown

-- the line with this first field and these others
unfoldable pub line_with : List ℕ → List (List ℕ) → Line
line_with first others =
    if bytes_eq first (codes "lab") then lab_line others
    else (if bytes_eq first (codes "job") then job_line others else (if bytes_eq first (codes "session") then session_line others
    else (if bytes_eq first (codes "end") then alone End others
    else (if bytes_eq first (codes "steps") then alone Steps others else (if bytes_eq first (codes "patience") then Unknown
    else command_line first others)))))

-- a line without fields, and one whose first field begins with #, is skipped
abbrev pub line_in : List (List ℕ) → Option Line
line_in [] = None
line_in (first ∷ others) = if slice_index first 0 == 35 then None else Some (line_with first others)

-- the form of a line, if it isn't skipped
abbrev pub form_of : List ℕ → Option Line
form_of line = line_in (fields line)

-- ---- kinds of lines

abbrev pub is_header : Line → Bool
is_header (Header version) = true
is_header _ = false

abbrev pub is_lab_two : Line → Bool
is_lab_two (Header Two) = true
is_lab_two _ = false

abbrev pub is_job_line : Line → Bool
is_job_line (Job name) = true
is_job_line _ = false

-- with a patience or without
abbrev pub is_session : Line → Bool
is_session Session = true
is_session (PatientSession number) = true
is_session _ = false

abbrev pub is_command : Line → Bool
is_command (Command name verb) = true
is_command _ = false

abbrev pub is_end : Line → Bool
is_end End = true
is_end _ = false

abbrev pub is_steps : Line → Bool
is_steps Steps = true
is_steps _ = false

-- ---- what a line names

-- the name that a job line gives
abbrev pub job_name : Line → Option (List ℕ)
job_name (Job name) = Some name
job_name _ = None

-- the instrument that a command line is on
abbrev pub instrument : Line → Option (List ℕ)
instrument (Command name verb) = Some name
instrument _ = None

-- either of these
abbrev pub name_in : Line → Option (List ℕ)
name_in (Job name) = Some name
name_in (Command name verb) = Some name
name_in _ = None

abbrev pub verb_number : VerbText → Option (List ℕ)
verb_number (Sets number) = Some number
verb_number (Adds number) = Some number
verb_number Reads = None

-- the number that a line has, as it is spelled
abbrev pub number_in : Line → Option (List ℕ)
number_in (PatientSession number) = Some number
number_in (Command name verb) = verb_number verb
number_in _ = None
