-- The lines of a report lead from the opening to its end.
use Rattle.std.proofs.Common.{suc, ◌≡◌, ℕ, ◌-◌, true, false, ◌&&◌, ◌||◌, not, List, [], ◌∷◌, ◌++◌, length, append_assoc, append-nil, refl, sym, ap, subst, arith}
use Rattle.std.specs.Prelude.{None, Some, nat_lt, map}
use Rattle.std.specs.List.{flat_map, AllByRecursion}
use Rattle.std.specs.Option.{is_some}
use Rattle.std.proofs.lemmas.Bool.Decides.{nat_tests}
use Rattle.lab_plan.specs.Building.{on_last}
use Rattle.report_reader.specs.declared.fault.ReportCause.TheVariants.{OutOfPlace, OtherVersion, WrongEnd}
use Rattle.report_reader.specs.Line.{Line, Entry, Job, Last, EntryText, JobText}
use Rattle.report_reader.specs.Report.{LogText, ReportText, log_lines, lines_of}
use Rattle.report_reader.specs.State.{State, opening, at, is_two, is_same, with_entry, cause_in, after}
use Rattle.report_reader.specs.Reading.{Leads}
use Rattle.report_reader.specs.Laws.{IsReport}

abbrev state : ℕ → List LogText → ℕ → List JobText → State
state version logs due jobs = record { version = Some version; logs = logs; due = due; jobs = jobs; last = None }

leads-append : (s : State) (xs : List Line) (t : State) (ys : List Line) (u : State) → Leads s xs t → Leads t ys u → Leads s (xs ++ ys) u
leads-append s [] t ys u h k = subst (λ x. Leads x ys u) (sym h) k
leads-append s (x ∷ xs) t ys u h k = (h.0, leads-append (after s x) xs t ys u h.1 k)

on_last-push : (done : List LogText) (log : LogText) (change : LogText → LogText) → on_last change (done ++ log ∷ []) ≡ done ++ change log ∷ []
on_last-push [] log change = refl
on_last-push (x ∷ []) log change = refl
on_last-push (x ∷ y ∷ done) log change = ap (λ l. x ∷ l) (on_last-push (y ∷ done) log change)

is_more : (n : ℕ) → nat_lt 0 (suc n) ≡ true
is_more n = grind (arith, nat_tests)

some_log : (done : List LogText) (log : LogText) → nat_lt 0 (length (done ++ log ∷ [])) ≡ true
some_log [] log = refl
some_log (x ∷ done) log = is_more (length (done ++ log ∷ []))

abbrev named : List ℕ → List EntryText → LogText
named name entries = record { name = name; entries = entries }

entries_lead : (version : ℕ) (done : List LogText) (name : List ℕ) (sofar entries : List EntryText) →
    Leads (state version (done ++ named name sofar ∷ []) (length entries) []) (map (λ entry. Entry entry) entries)
    (state version (done ++ named name (sofar ++ entries) ∷ []) 0 [])
unfolding cause_in after
entries_lead version done name sofar [] = ap (λ l. state version (done ++ named name l ∷ []) 0 []) (sym (append-nil sofar))
entries_lead version done name sofar (entry ∷ entries) =
    let log = named name sofar in
    let due : suc (length entries) - 1 ≡ length entries = omega arith in
    let next : after (state version (done ++ log ∷ []) (suc (length entries)) []) (Entry entry) ≡ state version (done ++ named name (sofar ++ entry ∷ []) ∷ [])
    (length entries) [] =
    (λ i. state version (on_last-push done log (with_entry entry) i) (due i) []) in (
      (λ i. at (false || not (is_more (length entries) i && some_log done log i)) OutOfPlace None),
      subst (λ s. Leads s (map (λ e. Entry e) entries) (state version (done ++ named name (sofar ++ entry ∷ entries) ∷ []) 0 [])) (sym next)
          (subst (λ l. Leads (state version (done ++ named name (sofar ++ entry ∷ []) ∷ []) (length entries) []) (map (λ e. Entry e) entries)
          (state version (done ++ named name l ∷ []) 0 []))
          (append_assoc sofar (entry ∷ []) entries) (entries_lead version done name (sofar ++ entry ∷ []) entries)),
    )

logs_lead : (version : ℕ) (done logs : List LogText) → Leads (state version done 0 []) (flat_map log_lines logs) (state version (done ++ logs) 0 [])
unfolding cause_in after
logs_lead version done [] = ap (λ l. state version l 0 []) (sym (append-nil done))
logs_lead version done (log ∷ logs) =
    leads-append (state version done 0 []) (log_lines log) (state version (done ++ log ∷ []) 0 []) (flat_map log_lines logs)
    (state version (done ++ log ∷ logs) 0 [])
    (refl, entries_lead version done log.name [] log.entries)
    (subst (λ l. Leads (state version (done ++ log ∷ []) 0 []) (flat_map log_lines logs) (state version l 0 [])) (append_assoc done (log ∷ []) logs)
    (logs_lead version (done ++ log ∷ []) logs))

jobs_lead : (version : ℕ) (logs : List LogText) (done jobs : List JobText)
    → AllByRecursion (λ (job : JobText). is_same (is_some job.withdrawn) (is_two (Some version)) ≡ true) jobs →
    Leads (state version logs 0 done) (map (λ job. Job job) jobs) (state version logs 0 (done ++ jobs))
unfolding cause_in after
jobs_lead version logs done [] forms = ap (state version logs 0) (sym (append-nil done))
jobs_lead version logs done (job ∷ jobs) forms = (
  (λ i. at (not (forms.0 i)) OtherVersion None),
  subst (λ l. Leads (state version logs 0 (done ++ job ∷ [])) (map (λ j. Job j) jobs) (state version logs 0 l)) (append_assoc done (job ∷ []) jobs)
      (jobs_lead version logs (done ++ job ∷ []) jobs forms.1),
)

abbrev pub ended : ReportText → State
ended report = record { version = Some report.version; logs = report.logs; due = 0; jobs = report.jobs; last = Some report.is_finished }

pub report_leads : (report : ReportText) → IsReport report → Leads opening (lines_of report) (ended report)
unfolding cause_in after
report_leads report h =
    let v = report.version in (
      refl,
      leads-append (state v [] 0 []) (flat_map log_lines report.logs) (state v report.logs 0 [])
          (map (λ job. Job job) report.jobs ++ Last report.is_finished ∷ []) (ended report) (logs_lead v [] report.logs)
          (leads-append (state v report.logs 0 []) (map (λ job. Job job) report.jobs) (state v report.logs 0 report.jobs) (Last report.is_finished ∷ [])
          (ended report) (jobs_lead v report.logs [] report.jobs h.forms)
          ((λ i. at (not (h.ends i)) WrongEnd None), refl)),
    )
