-- For readers: the lines of a text `bench 1`, and what each stands for.
use Rattle.std.specs.Prelude.{ℕ, ◌+◌, Bool, true, false, ◌&&◌, List, [], ◌∷◌, ◌++◌, ◌==◌, codes, length, if◌then◌else◌, slice_index}
use Rattle.std.specs.List.{list_all, flat_map}
use Rattle.std.specs.Str.{bytes_eq}
use Rattle.bstr.specs.Text.{without_terminator}
use Rattle.lab_plan.specs.Names.{is_name}
use Rattle.script_reader.specs.Fields.{fields}
use Rattle.bench_texts.specs.declared.form.Place.{Place}
use Rattle.bench_texts.specs.declared.form.Place.TheVariants.{Head, BehindJob, Inside}

-- a line that is empty or a comment; a job's; one that says what its job may use; any other
pub data BenchLine : Type 0 where
  Skipped : BenchLine
  Job : BenchLine
  Uses : (names : List (List ℕ)) → BenchLine
  Other : BenchLine

-- the line with these fields
abbrev pub line_with : List (List ℕ) → BenchLine
line_with [] = Skipped
line_with (first ∷ others) =
    if slice_index first 0 == 35 then Skipped
    else (if bytes_eq first (codes "job") then Job else (if bytes_eq first (codes "uses") then Uses others else Other))

-- the line as it stands in the text, with its end
abbrev pub line_of : List ℕ → BenchLine
line_of line = line_with (fields (without_terminator line))

-- where the next line stands: before the header, directly behind a job's line, or elsewhere; what is skipped changes nothing
abbrev pub behind : Place → BenchLine → Place
behind place Skipped = place
behind place Job = BehindJob
behind place (Uses names) = Inside
behind place Other = Inside

-- ---- what a line stands for

-- names, and at least one
abbrev pub are_names : List (List ℕ) → Bool
are_names [] = false
are_names (name ∷ names) = list_all is_name (name ∷ names)

abbrev pub read_line : List ℕ → List ℕ
read_line name = name ++ codes " read\n"

unfoldable pub begin_line : List ℕ
begin_line = codes "session patience 0\n"

-- a session that needs these instruments, and is given up as soon as it waits
abbrev pub session_of : List (List ℕ) → List ℕ
session_of names = begin_line ++ (flat_map read_line names ++ codes "end\n")

-- without names the line has none of a script's forms; and with one that breaks the rule of names it stands for a line with such a name
abbrev pub not_session_of : List (List ℕ) → List ℕ
not_session_of [] = codes "uses\n"
not_session_of (name ∷ names) = codes "job -\n"

-- directly behind its job's line `uses` gives the job its first session; elsewhere it has none of a script's forms
abbrev pub uses_text : Place → List (List ℕ) → List ℕ
uses_text BehindJob names = if are_names names then session_of names else not_session_of names
uses_text Head names = codes "uses\n"
uses_text Inside names = codes "uses\n"

-- the header `bench 1` stands for `lab 2`, and every other line for itself
abbrev pub other_text : Place → List ℕ → List ℕ
other_text Head line = codes "lab 2\n"
other_text BehindJob line = line
other_text Inside line = line

abbrev pub text_of : Place → List ℕ → BenchLine → List ℕ
text_of place line Skipped = line
text_of place line Job = other_text place line
text_of place line (Uses names) = uses_text place names
text_of place line Other = other_text place line

-- the line gives its job a first session
abbrev pub gives_session : Place → BenchLine → Bool
gives_session BehindJob (Uses names) = are_names names
gives_session place line = false

-- how many lines that session has
abbrev pub session_lines : BenchLine → ℕ
session_lines (Uses names) = length names + 2
session_lines line = 1

-- how many lines the line stands for
abbrev pub line_count : Place → BenchLine → ℕ
line_count place line = if gives_session place line then session_lines line else 1

-- ---- the header

abbrev pub is_skipped : BenchLine → Bool
is_skipped Skipped = true
is_skipped line = false

-- `bench 1`
abbrev pub is_header : List (List ℕ) → Bool
is_header (first ∷ version ∷ []) = bytes_eq first (codes "bench") && bytes_eq version (codes "1")
is_header others = false
