-- The line that some words are, if they are one.
use Rattle.std.specs.Prelude.{ℕ, ◌+◌, Bool, true, false, ◌&&◌, ◌==◌, List, [], ◌∷◌, Option, None, Some, codes, take, drop, if◌then◌else◌}
use Rattle.std.specs.List.{position}
use Rattle.std.specs.Option.{option_map, option_and_then}
use Rattle.std.specs.Str.{bytes_eq}
use Rattle.lab_plan.specs.declared.verb.Verb.{Verb}
use Rattle.lab_plan.specs.declared.verb.Verb.TheVariants.{Set, Add, Read}
use Rattle.lab_plan.specs.Names.{is_name}
use Rattle.report_reader.specs.Number.{number_of}
use Rattle.report_reader.specs.Line.{Line, Header, Instrument, Entry, Job, Last}

-- `finished` or `unfinished`
unfoldable pub last_of : List ℕ → Option Line
last_of word = if bytes_eq word (codes "finished") then Some (Last true) else (if bytes_eq word (codes "unfinished") then Some (Last false) else None)

-- `lab 1` or `lab 2`
unfoldable pub header_of : List ℕ → List ℕ → Option Line
header_of word version =
    if bytes_eq word (codes "lab") then (if bytes_eq version (codes "1") then Some (Header 1) else
    (if bytes_eq version (codes "2") then Some (Header 2) else None)) else None

-- `instrument NAME N`
unfoldable pub instrument_of : List ℕ → List ℕ → List ℕ → Option Line
instrument_of word name entries = if bytes_eq word (codes "instrument") && is_name name then option_map (λ n. Instrument name n) (number_of entries) else None

-- `PLACE/LENGTH`
unfoldable pub part_of : List ℕ → Option (ℕ × ℕ)
part_of word = option_and_then (λ k. option_and_then (λ place. option_map (λ l. (place, l)) (number_of (drop (k + 1) word))) (number_of (take k word)))
    (position (λ b. b == 47) word)

-- `set N` or `add N`
unfoldable pub verb_of : List ℕ → List ℕ → Option Verb
verb_of word number =
    if bytes_eq word (codes "set") then option_map (λ n. Set n) (number_of number) else
    (if bytes_eq word (codes "add") then option_map (λ n. Add n) (number_of number) else None)

-- `read`
unfoldable pub read_of : List ℕ → Option Verb
read_of word = if bytes_eq word (codes "read") then Some Read else None

-- `JOB SESSION PLACE/LENGTH`, a verb, and `= VALUE`
unfoldable pub entry_of : List ℕ → List ℕ → List ℕ → Option Verb → List ℕ → List ℕ → Option Line
entry_of job session part verb is value =
    if is_name job && bytes_eq is (codes "=")
    then option_and_then (λ w. option_and_then (λ s. option_and_then
    (λ (p : ℕ × ℕ). option_map (λ v. Entry (record { job = job; session = s; place = p.0; length = p.1; verb = w; value = v })) (number_of value))
    (part_of part)) (number_of session)) verb
    else None

-- `job NAME sessions D of S`
unfoldable pub done_of : List ℕ → List ℕ → List ℕ → List ℕ → List ℕ → List ℕ → Option (List ℕ × ℕ × ℕ)
done_of job name word done of_word sessions =
    if bytes_eq job (codes "job") && is_name name && bytes_eq word (codes "sessions") && bytes_eq of_word (codes "of")
    then option_and_then (λ d. option_map (λ s. (name, d, s)) (number_of sessions)) (number_of done)
    else None

-- `withdrawn X`
unfoldable pub withdrawn_of : List ℕ → List ℕ → Option (Option ℕ)
withdrawn_of word number = if bytes_eq word (codes "withdrawn") then option_map (λ n. Some n) (number_of number) else None

-- `retired` or `waiting`
unfoldable pub state_of : List ℕ → Option Bool
state_of word = if bytes_eq word (codes "retired") then Some true else (if bytes_eq word (codes "waiting") then Some false else None)

-- `meals M STATE`
unfoldable pub meals_of : List ℕ → List ℕ → List ℕ → Option (ℕ × Bool)
meals_of word number state = if bytes_eq word (codes "meals") then option_and_then (λ m. option_map (λ s. (m, s)) (state_of state)) (number_of number) else None

unfoldable pub job_of : Option (List ℕ × ℕ × ℕ) → Option (Option ℕ) → Option (ℕ × Bool) → Option Line
job_of head withdrawn tail =
    option_and_then (λ (h : List ℕ × ℕ × ℕ). option_and_then
    (λ w. option_map (λ (t : ℕ × Bool). Job (record { name = h.0; done = h.1; sessions = h.2; withdrawn = w; meals = t.0; is_retired = t.1 })) tail)
    withdrawn) head

-- the beginning of a job's line, `withdrawn X`, and its end
unfoldable pub head_of : List (List ℕ) → Option (List ℕ × ℕ × ℕ)
head_of (job ∷ name ∷ a ∷ done ∷ b ∷ sessions ∷ []) = done_of job name a done b sessions
head_of _ = None

unfoldable pub middle_of : List (List ℕ) → Option (Option ℕ)
middle_of (word ∷ withdrawn ∷ []) = withdrawn_of word withdrawn
middle_of _ = None

unfoldable pub tail_of : List (List ℕ) → Option (ℕ × Bool)
tail_of (word ∷ meals ∷ state ∷ []) = meals_of word meals state
tail_of _ = None

-- a line that is no job's
unfoldable pub short_line : List (List ℕ) → Option Line
short_line (word ∷ []) = last_of word
short_line (word ∷ version ∷ []) = header_of word version
short_line (word ∷ name ∷ entries ∷ []) = instrument_of word name entries
short_line (job ∷ session ∷ part ∷ verb ∷ is ∷ value ∷ []) = entry_of job session part (read_of verb) is value
short_line (job ∷ session ∷ part ∷ verb ∷ number ∷ is ∷ value ∷ []) = entry_of job session part (verb_of verb number) is value
short_line _ = None

-- the line with these words
unfoldable pub line_of : List (List ℕ) → Option Line
line_of (word ∷ []) = last_of word
line_of (word ∷ version ∷ []) = header_of word version
line_of (word ∷ name ∷ entries ∷ []) = instrument_of word name entries
line_of (job ∷ session ∷ part ∷ verb ∷ is ∷ value ∷ []) = entry_of job session part (read_of verb) is value
line_of (job ∷ session ∷ part ∷ verb ∷ number ∷ is ∷ value ∷ []) = entry_of job session part (verb_of verb number) is value
line_of (job ∷ name ∷ a ∷ done ∷ b ∷ sessions ∷ c ∷ meals ∷ state ∷ []) = job_of (done_of job name a done b sessions) (Some None) (meals_of c meals state)
line_of (job ∷ name ∷ a ∷ done ∷ b ∷ sessions ∷ w ∷ withdrawn ∷ c ∷ meals ∷ state ∷ []) =
    job_of (done_of job name a done b sessions) (withdrawn_of w withdrawn) (meals_of c meals state)
line_of _ = None
