-- A replay of the steps that are written of a journal.
use Rattle.std.proofs.Common.{◌≡◌, List, ◌∙◌, subst}
use Rattle.lab_plan.specs.LabPlan.{LabPlan}
use Rattle.legal_steps.specs.declared.event.Event.{Event}
use Rattle.legal_steps.specs.Opening.{the_opening}
use Rattle.legal_steps.specs.Run.{StopsAt}
use Rattle.report.specs.Events.{report_after, retired_after}
use Rattle.script_reader.specs.Laws.{HasOneList, HasListOrFault}
use Rattle.explaining.specs.Explanations.{events_from_opening}
use Rattle.lab_program.specs.Reports.{outcome_of}
use Rattle.lab_runs.specs.Replays.{run_of}
use Rattle.round_trace.proofs.InHand.{never_stops}
use Rattle.journal_views.specs.Journals.{upgraded, steps_there}
use Rattle.journal_views.specs.Laws.{JournalIsReplayed}

pub is_replayed : HasOneList → HasListOrFault → JournalIsReplayed
is_replayed one either input text outcome w =
    let plan = upgraded w.plan in
    let there = steps_there w.plan w.steps in
    let events = events_from_opening w.plan w.steps in
    record {
      reported = λ report said z.
          let same = one text z.plan plan z.steps there z.means w.means in
          let whole : run_of z.plan z.steps ≡ events = (λ i. run_of (same.0 i) (same.1 i)) ∙ w.same_events in (
            z.reported.report ∙ (λ i. report_after (same.0 i) (the_opening (same.0 i)) (whole i)),
            z.reported.ends ∙ (λ i. outcome_of (retired_after (same.0 i) (the_opening (same.0 i)) (whole i))),
          );
      all_legal = λ line bad.
          let same = one text bad.plan plan bad.steps there bad.means w.means in
          let whole : run_of bad.plan bad.steps ≡ events = (λ i. run_of (same.0 i) (same.1 i)) ∙ w.same_events in
          never_stops plan (the_opening plan) bad.stops.state events bad.stops.place w.legal
          (subst (λ (p : LabPlan × List Event). StopsAt p.0 (the_opening p.0) p.1 bad.stops.place bad.stops.state) (λ i. (same.0 i, whole i)) bad.stops.stops);
      no_fault = λ number cause. either text plan there number cause w.means;
    }
