-- The report that a legal list of events prints has all that a report has.
use Rattle.std.proofs.Common.{◌≡◌, ℕ, zero, suc, ◌+◌, ◌^◌, ◌<◌, Bool, true, false, if◌then◌else◌, List, [], ◌∷◌, ◌++◌, length, map, refl, ap, ◌∙◌, arith}
use Rattle.std.specs.Prelude.{None, Some, ◌==◌}
use Rattle.std.specs.List.{AllByRecursion, flat_map, range_with_len}
use Rattle.std.specs.Option.{is_some}
use Rattle.std.proofs.lemmas.List.{length-map}
use Rattle.std.proofs.lemmas.List.Sums.{count_by-le-length}
use Rattle.std.proofs.lemmas.List.Folds.{list_all-map}
use Rattle.lab_plan.specs.declared.verb.Verb.{Verb}
use Rattle.lab_plan.specs.declared.verb.Verb.TheVariants.{Set, Add, Read}
use Rattle.lab_plan.specs.Verbs.{Fits}
use Rattle.lab_plan.specs.LabPlan.{LabPlan, no_job, all_commands}
use Rattle.lab_plan.specs.IsPlan.{IsPlan}
use Rattle.instrument_log.specs.declared.entry.Entry.{Entry as LogEntry}
use Rattle.legal_steps.specs.declared.event.Event.{Event}
use Rattle.legal_steps.specs.State.{State, log}
use Rattle.legal_steps.specs.Run.{IsLegalFrom, after_all}
use Rattle.legal_steps.specs.Opening.{IsOpening}
use Rattle.legal_steps.specs.WholeLogs.{ended_sessions}
use Rattle.legal_steps.proofs.AppendLaw.{room_enough}
use Rattle.legal_steps.proofs.CountLaw.{done_few}
use Rattle.legal_steps.proofs.MealLaw.{meals_few}
use Rattle.legal_steps.proofs.LogRun.{logged}
use Rattle.report.specs.Report.{Shown, jobs, instruments}
use Rattle.report.specs.Events.{shown_after}
use Rattle.report_reader.specs.Line.{Line, Entry, Job, Last, JobText}
use Rattle.report_reader.specs.Report.{log_lines}
use Rattle.report_reader.specs.State.{is_two, is_same}
use Rattle.report_reader.specs.Fits.{LineFits, HasSmall, VerbFits}
use Rattle.report_reader.specs.Laws.{IsReport}
use Rattle.printed_reports.specs.Printed.{printed_entry, printed_log, printed_job, printed_report}
use Rattle.printed_reports.proofs.Written.{IsWritten, logs_written}

-- ---- entries

verb_small : (verb : Verb) → Fits verb → VerbFits verb
verb_small (Set n) fits = omega (arith, fits)
verb_small (Add n) fits = omega (arith, fits)
verb_small Read fits = tt

entry_fits : (plan : LabPlan) (entry : LogEntry) → IsPlan plan → IsWritten plan entry → LineFits (Entry (printed_entry plan entry))
entry_fits plan entry is h =
    let w = h.within in (
      is.draft.job_names entry.job no_job h.job,
      omega (arith, w.session_to),
      omega (arith, w.place_to, w.length_to),
      omega (arith, w.length_to),
      verb_small entry.verb w.verb_fits,
      omega (arith, w.value_to),
    )

entries_fit : (plan : LabPlan) (entries : List LogEntry) → IsPlan plan → AllByRecursion (IsWritten plan) entries
    → AllByRecursion LineFits (map (λ entry. Entry entry) (map (printed_entry plan) entries))
entries_fit plan [] is all = tt
entries_fit plan (entry ∷ entries) is all = (entry_fits plan entry is all.0, entries_fit plan entries is all.1)

-- ---- lists of lines

fit_both : (xs ys : List Line) → AllByRecursion LineFits xs → AllByRecursion LineFits ys → AllByRecursion LineFits (xs ++ ys)
fit_both [] ys h k = k
fit_both (x ∷ xs) ys h k = (h.0, fit_both xs ys h.1 k)

-- what holds of each number from a on
each_from : (P : ℕ → Type 0) (a n : ℕ) → ((k : ℕ) → k < a + n → P k) → AllByRecursion P (range_with_len a n)
each_from P a zero h = tt
each_from P a (suc n) h = (h a (omega arith), each_from P (a + 1) n (λ k below. h k (omega (arith, below))))

logs_fit : (plan : LabPlan) (shown : Shown) (numbers : List ℕ)
    → AllByRecursion (λ n. AllByRecursion LineFits (log_lines (printed_log plan shown n))) numbers
    → AllByRecursion LineFits (flat_map log_lines (map (printed_log plan shown) numbers))
logs_fit plan shown [] all = tt
logs_fit plan shown (n ∷ numbers) all =
    fit_both (log_lines (printed_log plan shown n)) (flat_map log_lines (map (printed_log plan shown) numbers)) all.0 (logs_fit plan shown numbers all.1)

jobs_fit : (plan : LabPlan) (shown : Shown) (numbers : List ℕ) → AllByRecursion (λ n. LineFits (Job (printed_job plan shown n))) numbers
    → AllByRecursion LineFits (map (λ job. Job job) (map (printed_job plan shown) numbers))
jobs_fit plan shown [] all = tt
jobs_fit plan shown (n ∷ numbers) all = (all.0, jobs_fit plan shown numbers all.1)

-- ---- logs and jobs of a run

log_fits : (plan : LabPlan) (opening : State) (events : List Event) (i : ℕ) → IsPlan plan → IsOpening plan opening → IsLegalFrom plan opening events
    → i < length plan.instruments → AllByRecursion LineFits (log_lines (printed_log plan (shown_after plan opening events) i))
log_fits plan opening events i is opens legal inside =
    let s = after_all plan opening events in
    let size = length-map (log s i) (printed_entry plan) in
    let room = room_enough plan s (ended_sessions plan opening events) i (logged plan opening events is opens legal) in
    let few = count_by-le-length (λ (command : ℕ × Verb). command.0 == i) (all_commands plan) in (
      (is.draft.instrument_names i [] inside, omega (arith, size, room, few, is.draft.few_commands)),
      entries_fit plan (log s i) is (logs_written plan opening events is opens legal i),
    )

withdrawn_small : (is_two : Bool) (n : ℕ) → n < 2 ^ 32 → HasSmall (if is_two then Some n else None)
withdrawn_small true n small = small
withdrawn_small false n small = tt

job_fits : (plan : LabPlan) (opening : State) (events : List Event) (j : ℕ) → IsPlan plan → IsOpening plan opening → IsLegalFrom plan opening events
    → j < length plan.jobs → LineFits (Job (printed_job plan (shown_after plan opening events) j))
job_fits plan opening events j is opens legal inside =
    let few = done_few plan opening events j is opens legal in (
      is.draft.job_names j no_job inside,
      omega (arith, few),
      omega (arith, is.draft.few_sessions j),
      withdrawn_small (plan.version == 2) _ (omega (arith, few)),
      omega (arith, meals_few plan opening events j is opens legal),
    )

-- ---- the report

job_form : (is_two : Bool) (n : ℕ) → is_same (is_some (if is_two then Some n else None)) is_two ≡ true
job_form true n = refl
job_form false n = refl

forms : (plan : LabPlan) (shown : Shown) (numbers : List ℕ)
    → AllByRecursion (λ (job : JobText). is_same (is_some job.withdrawn) (is_two (Some plan.version)) ≡ true) (map (printed_job plan shown) numbers)
forms plan shown [] = tt
forms plan shown (n ∷ numbers) = (job_form (plan.version == 2) (shown.withdrawn n), forms plan shown numbers)

same_self : (b : Bool) → is_same b b ≡ true
same_self true = refl
same_self false = refl

pub printed_fits : (plan : LabPlan) (opening : State) (events : List Event) → IsPlan plan → IsOpening plan opening → IsLegalFrom plan opening events
    → IsReport (printed_report plan (shown_after plan opening events))
printed_fits plan opening events is opens legal =
    let shown = shown_after plan opening events in
    let report = printed_report plan shown in
    let logs = each_from (λ i. AllByRecursion LineFits (log_lines (printed_log plan shown i))) 0 (length plan.instruments)
    (λ i below. log_fits plan opening events i is opens legal (omega (arith, below))) in
    let told = each_from (λ j. LineFits (Job (printed_job plan shown j))) 0 (length plan.jobs)
    (λ j below. job_fits plan opening events j is opens legal (omega (arith, below))) in
    record {
      lines = (
        is.draft.version,
        fit_both (flat_map log_lines report.logs) (map (λ job. Job job) report.jobs ++ Last report.is_finished ∷ [])
            (logs_fit plan shown (instruments plan) logs)
            (fit_both (map (λ job. Job job) report.jobs) (Last report.is_finished ∷ []) (jobs_fit plan shown (jobs plan) told) (tt, tt)),
      );
      forms = forms plan shown (jobs plan);
      ends = ap (is_same report.is_finished) (list_all-map (λ (job : JobText). job.is_retired) (printed_job plan shown) (jobs plan))
          ∙ same_self report.is_finished;
    }
