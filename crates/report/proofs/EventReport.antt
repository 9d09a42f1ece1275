-- The report of a world that some events led to from its start is that of the events.
use Rattle.std.proofs.Common.{◌≡◌, ℕ, ◌<◌, List, length, replicate, arith, ap, ◌∙◌, zero-add}
use Rattle.std.proofs.lemmas.List.{get_or-replicate, length-replicate}
use Rattle.lab_plan.specs.LabPlan.{LabPlan}
use Rattle.legal_steps.specs.declared.event.Event.{Event}
use Rattle.legal_steps.specs.State.{State, log, drinking}
use Rattle.legal_steps.specs.declared.counts.Counts.{Counts}
use Rattle.legal_steps.specs.Counting.{counts_of, no_counts}
use Rattle.interleaving.specs.Counting.{GoOnBy, count_at, both_counts}
use Rattle.interleaving.specs.World.{WorldView, LeadsTo}
use Rattle.interleaving.specs.Start.{at_start}
use Rattle.report.specs.Report.{report_of, all_retired}
use Rattle.report.specs.Worlds.{shown_by}
use Rattle.report.specs.Events.{shown_after, IsReportOfEvents, ShowsAlike}
use Rattle.report.proofs.OneReport.{one_report}

-- ---- counts from the start on

none_and : (c : Counts) → both_counts no_counts c ≡ c
none_and c = simp zero-add

counts_from_start : (plan : LabPlan) (events : List Event) (counts : List Counts) (j : ℕ) → GoOnBy (replicate (length plan.jobs) no_counts) events counts
    → j < length plan.jobs
    → count_at counts j ≡ counts_of j events
counts_from_start plan events counts j go below =
    let n = length plan.jobs in
    go.counted j (omega (arith, below, length-replicate n no_counts))
    ∙ ap (λ (c : Counts). both_counts c (counts_of j events)) (get_or-replicate n j no_counts no_counts below) ∙ none_and (counts_of j events)

-- ---- after the events

shows_alike : (plan : LabPlan) (opening : State) (events : List Event) (world : WorldView) → LeadsTo (at_start plan opening) events world
    → ShowsAlike plan (shown_by world) (shown_after plan opening events)
shows_alike plan opening events world led = record {
  log = λ i below. ap (λ s. log s i) led.run.leads;
  drinking = λ j below. ap (λ s. drinking s j) led.run.leads;
  sessions_done = λ j below. ap (λ (c : Counts). c.sessions_done) (counts_from_start plan events world.counts j led.counted below);
  withdrawn = λ j below. ap (λ (c : Counts). c.withdrawn) (counts_from_start plan events world.counts j led.counted below);
  meals = λ j below. ap (λ (c : Counts). c.meals) (counts_from_start plan events world.counts j led.counted below);
}

pub report_of_events : IsReportOfEvents
report_of_events plan opening events world led =
    let (report, end) = one_report plan (shown_by world) (shown_after plan opening events) (shows_alike plan opening events world led) in
    (ap (λ p. report_of p (shown_by world)) led.same_plan ∙ report, ap (λ p. all_retired p (shown_by world)) led.same_plan ∙ end)
