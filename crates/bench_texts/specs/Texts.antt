-- For readers: a text `bench 1` and the script `lab 2` that it stands for; which jobs get a first session by it, and where a line came from.
use Rattle.std.specs.Prelude.{ℕ, ◌≡◌, ◌+◌, ◌-◌, Bool, false, nat_le, List, [], ◌∷◌, ◌++◌, if◌then◌else◌}
use Rattle.bstr.specs.Text.{lines_of, without_terminator}
use Rattle.lab_plan.specs.LabPlan.{LabPlan}
use Rattle.script_reader.specs.declared.fault.ScriptFault.{ScriptFault}
use Rattle.script_reader.specs.Fields.{fields}
use Rattle.script_reader.specs.Script.{ScriptMeans, Refuses, text_lines}
use Rattle.bench_texts.specs.declared.form.Place.{Place}
use Rattle.bench_texts.specs.declared.form.Place.TheVariants.{Head}
use Rattle.bench_texts.specs.declared.script.NotScript.{NotScript}
use Rattle.bench_texts.specs.declared.script.NotScript.TheVariants.{NoMemory, Fault}
use Rattle.bench_texts.specs.Lines.{BenchLine, Job, line_of, behind, text_of, gives_session, line_count, is_skipped, is_header}

-- the first of these lines that isn't skipped is the header
abbrev pub begin_with_header : List (List ℕ) → Bool
begin_with_header [] = false
begin_with_header (line ∷ lines) = if is_skipped (line_of line) then begin_with_header lines else is_header (fields (without_terminator line))

abbrev pub is_for_bench : List ℕ → Bool
is_for_bench text = begin_with_header (lines_of text)

-- ---- the script

-- what these lines stand for, of which the first stands at this place
abbrev pub text_from : Place → List (List ℕ) → List ℕ
text_from place [] = []
text_from place (line ∷ lines) = text_of place line (line_of line) ++ text_from (behind place (line_of line)) lines

-- a text for a bench stands for a script line by line, and any other text for itself
abbrev pub lab_text : List ℕ → List ℕ
lab_text text = if is_for_bench text then text_from Head (lines_of text) else text

-- ---- which jobs

abbrev pub jobs_in : BenchLine → ℕ
jobs_in Job = 1
jobs_in line = 0

-- the jobs that get a first session by these lines, behind so many jobs
abbrev pub users_from : Place → ℕ → List (List ℕ) → List ℕ
users_from place jobs [] = []
users_from place jobs (line ∷ lines) =
    (if gives_session place (line_of line) then (jobs - 1) ∷ [] else []) ++ users_from (behind place (line_of line)) (jobs + jobs_in (line_of line)) lines

-- the jobs with a line `uses`, by their numbers
abbrev pub users : List ℕ → List ℕ
users text = if is_for_bench text then users_from Head 0 (lines_of text) else []

-- ---- faults

-- the number of the line that stands for line n of what these stand for, of which the first has this number; behind all of them is the end
abbrev pub origin_from : Place → ℕ → List (List ℕ) → ℕ → ℕ
origin_from place number [] n = number
origin_from place number (line ∷ lines) n =
    if nat_le n (line_count place (line_of line)) then number
    else origin_from (behind place (line_of line)) (number + 1) lines (n - line_count place (line_of line))

-- the line of the text from which line n of its script came
abbrev pub origin : List ℕ → ℕ → ℕ
origin text n = if is_for_bench text then origin_from Head 1 (lines_of text) n else n

-- the fault of the script, at the line of the text from which it came
abbrev pub at_origin : List ℕ → ScriptFault → ScriptFault
at_origin text fault = record fault { line = origin text fault.line }

-- why there is no script: no memory; or the script that the text stands for is refused
abbrev pub IsWhyNoScript : List ℕ → NotScript → Type 0
IsWhyNoScript text NoMemory = Unit {0}
IsWhyNoScript text (Fault fault) = (refused : ScriptFault) × Refuses (text_lines (lab_text text)) refused × (fault ≡ at_origin text refused)

-- the script that the text stands for means a plan
abbrev pub MeansPlan : List ℕ → Type 0
MeansPlan text = (plan : LabPlan) × ScriptMeans (lab_text text) plan
