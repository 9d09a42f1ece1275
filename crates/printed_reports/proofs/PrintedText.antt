-- What a report prints is its lines, spelled one after another.
use Rattle.std.proofs.Common.{◌≡◌, ℕ, Bool, true, false, if◌then◌else◌, List, [], ◌∷◌, ◌++◌, length, map, refl, sym, ap, ◌∙◌, append_assoc, append-nil}
use Rattle.std.specs.Prelude.{None, Some, codes, decimal, ◌==◌}
use Rattle.std.specs.List.{flat_map}
use Rattle.std.proofs.lemmas.List.{length-map}
use Rattle.std.proofs.lemmas.List.Concat.{flat_map-append}
use Rattle.lab_plan.specs.declared.verb.Verb.{Verb}
use Rattle.lab_plan.specs.declared.verb.Verb.TheVariants.{Set, Add, Read}
use Rattle.lab_plan.specs.LabPlan.{LabPlan, sessions}
use Rattle.lab_plan.specs.Texts.{job_name, instrument_name, verb_text, header_line}
use Rattle.instrument_log.specs.declared.entry.Entry.{Entry as LogEntry}
use Rattle.report.specs.Report.{Shown, report_of, instrument_line, entry_text, log_text, tally_text, state_text, last_line, is_retired, all_retired, jobs, instruments}
use Rattle.report_reader.specs.Line.{Line, Header, Instrument, Entry, Job, Last, words_of, verb_words, withdrawn_words, state_word}
use Rattle.report_reader.specs.Report.{log_lines, lines_of}
use Rattle.printed_reports.specs.Printed.{printed_entry, printed_log, printed_job, printed_report}
use Rattle.printed_reports.proofs.Spelled.{spelled, text_of}

abbrev line_text : Line → List ℕ
line_text line = spelled (words_of line)

-- ---- each line

header_is : (version : ℕ) → header_line version ≡ line_text (Header version)
header_is version = refl

instrument_is : (name : List ℕ) (entries : ℕ) → instrument_line name entries ≡ line_text (Instrument name entries)
instrument_is name entries = simp append_assoc

entry_spelled : (name : List ℕ) (session place total value : ℕ) (verb : Verb) →
    name ++ codes " " ++ decimal session ++ codes " " ++ decimal place ++ codes "/" ++ decimal total
    ++ codes " " ++ verb_text verb ++ codes " = " ++ decimal value ++ codes "\n"
    ≡ spelled (name ∷ decimal session ∷ (decimal place ++ 47 ∷ decimal total) ∷ (verb_words verb ++ codes "=" ∷ decimal value ∷ []))
entry_spelled name session place total value (Set n) = simp append_assoc
entry_spelled name session place total value (Add n) = simp append_assoc
entry_spelled name session place total value Read = simp append_assoc

entry_is : (plan : LabPlan) (entry : LogEntry) → entry_text plan entry ≡ line_text (Entry (printed_entry plan entry))
entry_is plan entry = entry_spelled (job_name plan entry.job) entry.session entry.place entry.length entry.value entry.verb

-- ten parts, joined from the left and from the right
ten : (a b c d e f g h k l : List ℕ) → a ++ b ++ c ++ d ++ e ++ f ++ g ++ h ++ k ++ l ≡ a ++ (b ++ (c ++ (d ++ (e ++ (f ++ (g ++ (h ++ (k ++ l))))))))
ten a b c d e f g h k l =
    append_assoc (a ++ b ++ c ++ d ++ e ++ f ++ g ++ h) k l
    ∙ append_assoc (a ++ b ++ c ++ d ++ e ++ f ++ g) h (k ++ l)
    ∙ append_assoc (a ++ b ++ c ++ d ++ e ++ f) g (h ++ (k ++ l))
    ∙ append_assoc (a ++ b ++ c ++ d ++ e) f (g ++ (h ++ (k ++ l)))
    ∙ append_assoc (a ++ b ++ c ++ d) e (f ++ (g ++ (h ++ (k ++ l))))
    ∙ append_assoc (a ++ b ++ c) d (e ++ (f ++ (g ++ (h ++ (k ++ l)))))
    ∙ append_assoc (a ++ b) c (d ++ (e ++ (f ++ (g ++ (h ++ (k ++ l))))))
    ∙ append_assoc a b (c ++ (d ++ (e ++ (f ++ (g ++ (h ++ (k ++ l)))))))

job_spelled : (name : List ℕ) (done all withdrawn meals : ℕ) (is_two retired : Bool) →
    codes "job " ++ name ++ codes " sessions " ++ decimal done ++ codes " of " ++ decimal all
    ++ (if is_two then codes " withdrawn " ++ decimal withdrawn else []) ++ codes " meals " ++ decimal meals ++ state_text retired
    ≡ spelled (codes "job" ∷ name ∷ codes "sessions" ∷ decimal done ∷ codes "of" ∷ decimal all
    ∷ (withdrawn_words (if is_two then Some withdrawn else None) ++ codes "meals" ∷ decimal meals ∷ state_word retired ∷ []))
job_spelled name done all withdrawn meals true true =
    ten (codes "job ") name (codes " sessions ") (decimal done) (codes " of ") (decimal all)
    (codes " withdrawn " ++ decimal withdrawn) (codes " meals ") (decimal meals) (state_text true)
job_spelled name done all withdrawn meals true false =
    ten (codes "job ") name (codes " sessions ") (decimal done) (codes " of ") (decimal all)
    (codes " withdrawn " ++ decimal withdrawn) (codes " meals ") (decimal meals) (state_text false)
job_spelled name done all withdrawn meals false true =
    ten (codes "job ") name (codes " sessions ") (decimal done) (codes " of ") (decimal all) [] (codes " meals ") (decimal meals) (state_text true)
job_spelled name done all withdrawn meals false false =
    ten (codes "job ") name (codes " sessions ") (decimal done) (codes " of ") (decimal all) [] (codes " meals ") (decimal meals) (state_text false)

job_is : (plan : LabPlan) (shown : Shown) (j : ℕ) → tally_text plan shown j ≡ line_text (Job (printed_job plan shown j))
job_is plan shown j =
    job_spelled (job_name plan j) (shown.sessions_done j) (length (sessions plan j)) (shown.withdrawn j) (shown.meals j) (plan.version == 2)
    (is_retired (shown.drinking j))

last_is : (is_finished : Bool) → last_line is_finished ≡ line_text (Last is_finished)
last_is true = refl
last_is false = refl

-- ---- the lines of logs and of jobs

entries_are : (plan : LabPlan) (entries : List LogEntry)
    → flat_map (entry_text plan) entries ≡ text_of (map (λ entry. Entry entry) (map (printed_entry plan) entries))
entries_are plan [] = refl
entries_are plan (entry ∷ entries) = λ i. entry_is plan entry i ++ entries_are plan entries i

log_is : (plan : LabPlan) (shown : Shown) (n : ℕ) → log_text plan shown n ≡ text_of (log_lines (printed_log plan shown n))
log_is plan shown n =
    let size = length-map (shown.log n) (printed_entry plan) in
    λ i. (ap (instrument_line (instrument_name plan n)) (sym size) ∙ instrument_is (instrument_name plan n) (length (map (printed_entry plan) (shown.log n)))) i
    ++ entries_are plan (shown.log n) i

logs_are : (plan : LabPlan) (shown : Shown) (numbers : List ℕ)
    → flat_map (log_text plan shown) numbers ≡ text_of (flat_map log_lines (map (printed_log plan shown) numbers))
logs_are plan shown [] = refl
logs_are plan shown (n ∷ numbers) =
    let own = log_lines (printed_log plan shown n) in
    let more = flat_map log_lines (map (printed_log plan shown) numbers) in
    (λ i. log_is plan shown n i ++ logs_are plan shown numbers i) ∙ sym (flat_map-append line_text own more)

jobs_are : (plan : LabPlan) (shown : Shown) (numbers : List ℕ)
    → flat_map (tally_text plan shown) numbers ≡ text_of (map (λ job. Job job) (map (printed_job plan shown) numbers))
jobs_are plan shown [] = refl
jobs_are plan shown (n ∷ numbers) = λ i. job_is plan shown n i ++ jobs_are plan shown numbers i

-- ---- the report

four : (a b c d : List ℕ) → a ++ b ++ c ++ d ≡ a ++ (b ++ (c ++ (d ++ [])))
four a b c d =
    append_assoc (a ++ b) c d ∙ append_assoc a b (c ++ d) ∙ ap (λ l. a ++ (b ++ (c ++ l))) (sym (append-nil d))

pub printed_text : (plan : LabPlan) (shown : Shown) → report_of plan shown ≡ text_of (lines_of (printed_report plan shown))
unfolding report_of
printed_text plan shown =
    let report = printed_report plan shown in
    let logs = flat_map log_lines report.logs in
    let rest = map (λ job. Job job) report.jobs in
    let last = Last report.is_finished ∷ [] in
    (λ i. header_is plan.version i ++ logs_are plan shown (instruments plan) i ++ jobs_are plan shown (jobs plan) i ++ last_is (all_retired plan shown) i)
    ∙ four (line_text (Header report.version)) (text_of logs) (text_of rest) (line_text (Last report.is_finished))
    ∙ ap (λ l. line_text (Header report.version) ++ l)
    (sym (flat_map-append line_text logs (rest ++ last) ∙ ap (λ l. text_of logs ++ l) (flat_map-append line_text rest last)))
