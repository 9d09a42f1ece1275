-- The lines that a reader has read are those of what it knows.
use Rattle.std.proofs.Common.{rules, ◌≡◌, ℕ, ◌+◌, ◌-◌, ◌<◌, zero, suc, Bool, true, false, ◌||◌, not, List, [], ◌∷◌, ◌++◌, length, refl, sym, ap, ◌∙◌, arith, length-append, append_assoc, append-nil}
use Rattle.std.specs.Prelude.{Option, None, Some, Ok, nat_lt, map}
use Rattle.std.specs.List.{flat_map}
use Rattle.std.specs.Option.{is_some}
use Rattle.std.proofs.lemmas.List.{map-append}
use Rattle.std.proofs.lemmas.Bool.{and_parts, true≢false}
use Rattle.std.proofs.lemmas.Bool.Decides.{nat_tests}
use Rattle.lab_plan.specs.Building.{on_last}
use Rattle.report_reader.specs.declared.fault.ReportCause.{ReportCause}
use Rattle.report_reader.specs.declared.fault.ReportCause.TheVariants.{OutOfPlace}
use Rattle.report_reader.specs.Line.{Line, Header, Instrument, Entry, Job, Last, EntryText, JobText}
use Rattle.report_reader.specs.Report.{LogText, ReportText, log_lines, lines_of}
use Rattle.report_reader.specs.State.{State, at, is_within, is_due, cause_in, with_entry, after, Ends}

-- ---- what is known, as lines

-- logs of which the last lacks some entries
abbrev pub open_lines : List LogText → ℕ → List Line
open_lines [] due = []
open_lines (log ∷ []) due = Instrument log.name (length log.entries + due) ∷ map (λ entry. Entry entry) log.entries
open_lines (log ∷ next ∷ logs) due = log_lines log ++ open_lines (next ∷ logs) due

abbrev pub head_lines : Option ℕ → List Line
head_lines None = []
head_lines (Some version) = Header version ∷ []

abbrev pub end_lines : Option Bool → List Line
end_lines None = []
end_lines (Some is_finished) = Last is_finished ∷ []

abbrev pub shown : State → List Line
shown s = head_lines s.version ++ (open_lines s.logs s.due ++ (map (λ job. Job job) s.jobs ++ end_lines s.last))

-- what holds of what is known
pub record IsTied (s : State) : Type 0 where
  pub fresh : s.version ≡ None → (s.logs ≡ []) × (s.jobs ≡ []) × (s.last ≡ None)
  pub due : 0 < s.due → (s.jobs ≡ []) × (s.last ≡ None)

-- ---- one more line

open_more : (logs : List LogText) (name : List ℕ) (due : ℕ)
    → open_lines (logs ++ record { name = name; entries = [] } ∷ []) due ≡ open_lines logs 0 ++ Instrument name due ∷ []
open_more [] name due = ap (λ n. Instrument name n ∷ []) (omega arith)
open_more (log ∷ []) name due =
    let none : length log.entries + 0 ≡ length log.entries = omega arith in
    (λ i. Instrument log.name (sym none i) ∷ (map (λ entry. Entry entry) log.entries ++ Instrument name (omega-zero due i) ∷ []))
  where
    omega-zero : (n : ℕ) → 0 + n ≡ n
    omega-zero n = omega arith
open_more (log ∷ next ∷ logs) name due = ap (λ l. log_lines log ++ l) (open_more (next ∷ logs) name due)
    ∙ sym (append_assoc (log_lines log) (open_lines (next ∷ logs) 0) (Instrument name due ∷ []))

entry_more : (logs : List LogText) (entry : EntryText) (due : ℕ) → 0 < length logs → 0 < due
    → open_lines (on_last (with_entry entry) logs) (due - 1) ≡ open_lines logs due ++ Entry entry ∷ []
entry_more [] entry due some more = absurd (omega arith)
entry_more (log ∷ []) entry due some more =
    let size = length-append log.entries (entry ∷ []) in
    let count : length (log.entries ++ entry ∷ []) + (due - 1) ≡ length log.entries + due = omega (arith, size, more) in
    (λ i. Instrument log.name (count i) ∷ map-append (λ (entry : EntryText). Entry entry) log.entries (entry ∷ []) i)
entry_more (log ∷ next ∷ logs) entry due some more = deeper logs next (entry_more (next ∷ logs) entry due (omega arith) more)
  where
    deeper : (logs : List LogText) (next : LogText)
        → open_lines (on_last (with_entry entry) (next ∷ logs)) (due - 1) ≡ open_lines (next ∷ logs) due ++ Entry entry ∷ []
        → open_lines (on_last (with_entry entry) (log ∷ next ∷ logs)) (due - 1) ≡ open_lines (log ∷ next ∷ logs) due ++ Entry entry ∷ []
    deeper [] next e = ap (λ l. log_lines log ++ l) e ∙ sym (append_assoc (log_lines log) (open_lines (next ∷ []) due) (Entry entry ∷ []))
    deeper (third ∷ logs) next e = ap (λ l. log_lines log ++ l) e ∙ sym (append_assoc (log_lines log) (open_lines (next ∷ third ∷ logs) due) (Entry entry ∷ []))

whole_lines : (logs : List LogText) → open_lines logs 0 ≡ flat_map log_lines logs
whole_lines [] = refl
whole_lines (log ∷ []) = let none : length log.entries + 0 ≡ length log.entries = omega arith in
    (λ i. Instrument log.name (none i) ∷ sym (append-nil (map (λ (entry : EntryText). Entry entry) log.entries)) i)
whole_lines (log ∷ next ∷ logs) = ap (λ l. log_lines log ++ l) (whole_lines (next ∷ logs))

-- ---- what a clean line says of what is known

at_none : (test : Bool) (cause : ReportCause) (rest : Option ReportCause) → at test cause rest ≡ None → (test ≡ false) × (rest ≡ None)
at_none true cause rest e = absurd (some_none cause e)
  where
    some_none : (cause : ReportCause) → Some cause ≡ None → ⊥
    some_none cause e = search (rules, e)
at_none false cause rest e = (refl, e)

or_false : (a b : Bool) → (a || b) ≡ false → (a ≡ false) × (b ≡ false)
or_false true b e = cc
or_false false b e = (refl, e)

not_false : (b : Bool) → not b ≡ false → b ≡ true
not_false true e = refl
not_false false e = cc

not_true : (b : Bool) → not b ≡ true → b ≡ false
not_true true e = cc
not_true false e = refl

no_value : {X : Type 0} (o : Option X) → is_some o ≡ false → o ≡ None
no_value None e = refl
no_value (Some x) e = cc

some_value : {X : Type 0} (o : Option X) → is_some o ≡ true → o ≡ None → ⊥
some_value o some none = true≢false (sym some ∙ ap is_some none)

is_zero : (n : ℕ) → nat_lt 0 n ≡ false → n ≡ 0
is_zero n e = grind (arith, nat_tests, e)

is_some_number : (n : ℕ) → nat_lt 0 n ≡ true → 0 < n
is_some_number n e = grind (arith, nat_tests, e)

is_empty : {X : Type 0} (xs : List X) → length xs ≡ 0 → xs ≡ []
is_empty [] e = refl
is_empty (x ∷ xs) e = absurd (omega (arith, e))

-- within the header and the last line
within : (s : State) → is_within s ≡ true → (s.version ≡ None → ⊥) × (s.last ≡ None)
within s e =
    let parts = and_parts (is_some s.version) (not (is_some s.last)) e in
    (some_value s.version parts.0, no_value s.last (not_true (is_some s.last) parts.1))

abbrev shown_of : Option ℕ → List LogText → ℕ → List JobText → Option Bool → List Line
shown_of version logs due jobs last = head_lines version ++ (open_lines logs due ++ (map (λ job. Job job) jobs ++ end_lines last))

tail_on : (h a : List Line) (x : Line) → h ++ ((a ++ x ∷ []) ++ []) ≡ (h ++ (a ++ [])) ++ x ∷ []
tail_on h a x =
    ap (λ l. h ++ l) (append-nil (a ++ x ∷ [])) ∙ sym (append_assoc h a (x ∷ [])) ∙ ap (λ l. (h ++ l) ++ x ∷ []) (sym (append-nil a))

last_on : (h a j : List Line) (x : Line) → h ++ (a ++ (j ++ x ∷ [])) ≡ (h ++ (a ++ (j ++ []))) ++ x ∷ []
last_on h a j x =
    ap (λ l. h ++ l) (sym (append_assoc a j (x ∷ []))) ∙ sym (append_assoc h (a ++ j) (x ∷ [])) ∙ ap (λ l. (h ++ (a ++ l)) ++ x ∷ []) (sym (append-nil j))

job_on : (h a : List Line) (jobs : List JobText) (job : JobText)
    → h ++ (a ++ (map (λ j. Job j) (jobs ++ job ∷ []) ++ [])) ≡ (h ++ (a ++ (map (λ j. Job j) jobs ++ []))) ++ Job job ∷ []
job_on h a jobs job =
    ap (λ l. h ++ (a ++ l)) (append-nil (map (λ (j : JobText). Job j) (jobs ++ job ∷ [])) ∙ map-append (λ (j : JobText). Job j) jobs (job ∷ []))
    ∙ last_on h a (map (λ (j : JobText). Job j) jobs) (Job job)

abbrev Goes : State → Line → Type 0
Goes s line = (shown (after s line) ≡ shown s ++ line ∷ []) × IsTied (after s line)

header_goes : (s : State) (version : ℕ) → IsTied s → cause_in s (Header version) ≡ None → Goes s (Header version)
unfolding cause_in after
header_goes s version t e =
    let none = no_value s.version (at_none (is_some s.version) OutOfPlace None e).0 in
    let f = t.fresh none in (
      (λ i. shown_of (Some version) (f.0 i) s.due (f.1 i) (f.2 i)) ∙ sym (λ i. shown_of (none i) (f.0 i) s.due (f.1 i) (f.2 i) ++ Header version ∷ []),
      record { fresh = λ h. absurd (some_value (Some version) refl h); due = t.due },
    )

instrument_goes : (s : State) (name : List ℕ) (entries : ℕ) → IsTied s → cause_in s (Instrument name entries) ≡ None → Goes s (Instrument name entries)
unfolding cause_in after
instrument_goes s name entries t e =
    let test = (at_none (not (is_within s) || nat_lt 0 s.due || nat_lt 0 (length s.jobs)) OutOfPlace None e).0 in
    let one = or_false (not (is_within s) || nat_lt 0 s.due) (nat_lt 0 (length s.jobs)) test in
    let two = or_false (not (is_within s)) (nat_lt 0 s.due) one.0 in
    let w = within s (not_false (is_within s) two.0) in
    let due = is_zero s.due two.1 in
    let jobs = is_empty s.jobs (is_zero (length s.jobs) one.1) in
    let more = s.logs ++ record { name = name; entries = [] } ∷ [] in (
      (λ i. shown_of s.version more entries (jobs i) (w.1 i))
          ∙ ap (λ l. head_lines s.version ++ (l ++ [])) (open_more s.logs name entries)
          ∙ tail_on (head_lines s.version) (open_lines s.logs 0) (Instrument name entries)
          ∙ sym (λ i. shown_of s.version s.logs (due i) (jobs i) (w.1 i) ++ Instrument name entries ∷ []),
      record { fresh = λ h. absurd (w.0 h); due = λ h. (jobs, w.1) },
    )

entry_goes : (s : State) (entry : EntryText) → IsTied s → cause_in s (Entry entry) ≡ None → Goes s (Entry entry)
unfolding cause_in after
entry_goes s entry t e =
    let test = (at_none (not (is_within s) || not (is_due s)) OutOfPlace None e).0 in
    let two = or_false (not (is_within s)) (not (is_due s)) test in
    let w = within s (not_false (is_within s) two.0) in
    let d = and_parts (nat_lt 0 s.due) (nat_lt 0 (length s.logs)) (not_false (is_due s) two.1) in
    let due = is_some_number s.due d.0 in
    let f = t.due due in (
      (λ i. shown_of s.version (on_last (with_entry entry) s.logs) (s.due - 1) (f.0 i) (f.1 i))
          ∙ ap (λ l. head_lines s.version ++ (l ++ [])) (entry_more s.logs entry s.due (is_some_number (length s.logs) d.1) due)
          ∙ tail_on (head_lines s.version) (open_lines s.logs s.due) (Entry entry)
          ∙ sym (λ i. shown_of s.version s.logs s.due (f.0 i) (f.1 i) ++ Entry entry ∷ []),
      record { fresh = λ h. absurd (w.0 h); due = λ h. f },
    )

job_goes : (s : State) (job : JobText) → IsTied s → cause_in s (Job job) ≡ None → Goes s (Job job)
unfolding cause_in after
job_goes s job t e =
    let test = (at_none (not (is_within s) || nat_lt 0 s.due) OutOfPlace _ e).0 in
    let two = or_false (not (is_within s)) (nat_lt 0 s.due) test in
    let w = within s (not_false (is_within s) two.0) in
    let due = is_zero s.due two.1 in (
      (λ i. shown_of s.version s.logs s.due (s.jobs ++ job ∷ []) (w.1 i))
          ∙ job_on (head_lines s.version) (open_lines s.logs s.due) s.jobs job
          ∙ sym (λ i. shown_of s.version s.logs s.due s.jobs (w.1 i) ++ Job job ∷ []),
      record { fresh = λ h. absurd (w.0 h); due = λ h. absurd (omega (arith, h, due)) },
    )

end_goes : (s : State) (is_finished : Bool) → IsTied s → cause_in s (Last is_finished) ≡ None → Goes s (Last is_finished)
unfolding cause_in after
end_goes s is_finished t e =
    let test = (at_none (not (is_within s) || nat_lt 0 s.due) OutOfPlace _ e).0 in
    let two = or_false (not (is_within s)) (nat_lt 0 s.due) test in
    let w = within s (not_false (is_within s) two.0) in
    let due = is_zero s.due two.1 in (
      last_on (head_lines s.version) (open_lines s.logs s.due) (map (λ (j : JobText). Job j) s.jobs) (Last is_finished)
          ∙ sym (λ i. shown_of s.version s.logs s.due s.jobs (w.1 i) ++ Last is_finished ∷ []),
      record { fresh = λ h. absurd (w.0 h); due = λ h. absurd (omega (arith, h, due)) },
    )

pub goes : (s : State) (line : Line) → IsTied s → cause_in s line ≡ None → Goes s line
goes s (Header version) t e = header_goes s version t e
goes s (Instrument name entries) t e = instrument_goes s name entries t e
goes s (Entry entry) t e = entry_goes s entry t e
goes s (Job job) t e = job_goes s job t e
goes s (Last is_finished) t e = end_goes s is_finished t e

-- ---- at the end

pub whole : (s : State) (report : ReportText) → IsTied s → Ends s (Ok report) → shown s ≡ lines_of report
whole s report t e =
    let due : s.due ≡ 0 = no_due s.due (λ h. some_value s.last (ap is_some e.1) (t.due h).1) in
    (λ i. shown_of (e.0 i) (sym e.2 i) (due i) (sym e.3 i) (e.1 i))
    ∙ ap (λ l. Header report.version ∷ (l ++ (map (λ (j : JobText). Job j) report.jobs ++ Last report.is_finished ∷ []))) (whole_lines report.logs)
  where
    no_due : (n : ℕ) → (0 < n → ⊥) → n ≡ 0
    no_due zero h = refl
    no_due (suc n) h = absurd (h (omega arith))
