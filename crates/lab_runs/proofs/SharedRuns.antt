-- From a run on a shared bench to what is promised of it.
use Rattle.std.proofs.Common.{◌≡◌, ℕ, List, [], length, sym, ap, ◌∙◌, subst}
use Rattle.lab_plan.specs.LabPlan.{LabPlan}
use Rattle.legal_steps.specs.declared.event.Event.{Event}
use Rattle.legal_steps.specs.Opening.{the_opening}
use Rattle.script_reader.specs.Script.{ScriptMeans}
use Rattle.script_reader.specs.Laws.{HasOnePlan}
use Rattle.edge_rule.specs.ClosedView.{ClosedView}
use Rattle.report.specs.Report.{report_of, all_retired}
use Rattle.report.specs.Events.{HasOneReport, shown_after, report_after, retired_after}
use Rattle.headline.specs.Headline.{HoldsOfEveryRun}
use Rattle.rounds.specs.OneRun.{RanRounds, OneRun}
use Rattle.rounds.specs.FromOpening.{fresh_players}
use Rattle.whole_runs.specs.Shown.{shown_in}
use Rattle.whole_runs.specs.Runs.{IsRunByTurns, IsRunInRounds}
use Rattle.lab_program.specs.declared.faults.Outcome.{Outcome}
use Rattle.lab_program.specs.Reports.{outcome_of}
use Rattle.lab_runs.specs.Shared.{RunsByTurns, RunsInRounds, HasOneRun}

module _ (one : HasOneReport) (holds : HoldsOfEveryRun) (input : List ℕ) (plan : LabPlan) (turns : ℕ) (c : ClosedView)
    (outcome : Outcome) (means : ScriptMeans input plan) (ends : outcome ≡ outcome_of (all_retired c.plan (shown_in c))) where
  abbrev pub runs_by_turns : IsRunByTurns plan turns c → RunsByTurns turns input (report_of c.plan (shown_in c)) outcome
  runs_by_turns r =
      let same = one plan (shown_in c) (shown_after plan (the_opening plan) r.history) r.shows in
      record {
        plan = plan;
        means = means;
        history = r.history;
        reported = record {
          within_limits = r.within_limits;
          legal = r.legal;
          report = ap (λ p. report_of p (shown_in c)) r.of_plan ∙ same.0;
          ends = ends ∙ ap outcome_of (ap (λ p. all_retired p (shown_in c)) r.of_plan ∙ same.1);
          holds = holds plan r.history r.within_limits r.legal;
        };
        takes_turns = r.takes_turns;
      }

  pub runs_in_rounds : IsRunInRounds plan turns c → RunsInRounds turns input (report_of c.plan (shown_in c)) outcome
  runs_in_rounds r = record { by_turns = runs_by_turns r.by_turns; ended = r.ended; number = r.number; rounds = r.rounds; not_quiet = r.not_quiet }

-- ---- one run of a script

pub has_one_run : HasOnePlan → OneRun → HasOneRun
has_one_run one_plan one limit input text text' outcome outcome' a b =
    let p : LabPlan = a.by_turns.plan in
    let q : LabPlan = b.by_turns.plan in
    let h : List Event = a.by_turns.history in
    let g : List Event = b.by_turns.history in
    let same_plan : p ≡ q = one_plan input p q a.by_turns.means b.by_turns.means in
    let moved : RanRounds q limit (fresh_players (length q.jobs)) [] a.ended a.number h =
    subst (λ (z : LabPlan). RanRounds z limit (fresh_players (length z.jobs)) [] a.ended a.number h) same_plan a.rounds in
    let same = one q limit (fresh_players (length q.jobs)) [] a.ended b.ended a.number b.number h g moved b.rounds in
    let same_history : h ≡ g = same.2 in
    let report : report_after p (the_opening p) h ≡ report_after q (the_opening q) g =
    λ i. report_after (same_plan i) (the_opening (same_plan i)) (same_history i) in
    let end : outcome_of (retired_after p (the_opening p) h) ≡ outcome_of (retired_after q (the_opening q) g) =
    λ i. outcome_of (retired_after (same_plan i) (the_opening (same_plan i)) (same_history i)) in
    (a.by_turns.reported.report ∙ (report ∙ sym b.by_turns.reported.report), a.by_turns.reported.ends ∙ (end ∙ sym b.by_turns.reported.ends))
