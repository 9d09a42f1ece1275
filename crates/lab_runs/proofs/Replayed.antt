-- Steps that a world takes from the initial state on.
use Rattle.std.proofs.Common.{◌≡◌, ℕ, zero, suc, ◌<◌, List, [], ◌∷◌, length, map, Ok, Err, Some, arith, refl, sym, ap, ◌∙◌, subst}
use Rattle.std.specs.List.{slice_get}
use Rattle.std.specs.Prelude.{slice_index_or}
use Rattle.lab_plan.specs.LabPlan.{LabPlan}
use Rattle.lab_plan.specs.IsPlan.{IsPlan}
use Rattle.legal_steps.specs.declared.event.StepLine.{StepLine}
use Rattle.legal_steps.specs.Opening.{the_opening}
use Rattle.interleaving.specs.World.{WorldView, LeadsTo}
use Rattle.interleaving.specs.Start.{at_start}
use Rattle.script_reader.specs.Steps.{StepsMean}
use Rattle.report.specs.Report.{report_of, all_retired}
use Rattle.report.specs.Worlds.{shown_by}
use Rattle.report.specs.Events.{IsReportOfEvents}
use Rattle.headline.specs.Headline.{HoldsOfEveryRun}
use Rattle.lab_program.specs.declared.faults.Outcome.{Outcome}
use Rattle.lab_runs.specs.Replaying.{TakesSteps}
use Rattle.lab_program.specs.Reports.{outcome_of}
use Rattle.lab_runs.specs.Replays.{run_of, ReplaysScript, HasIllegalStep}

-- the line of the step at a place
pub line_at : (steps : List StepLine) (k : ℕ) (d : StepLine) → k < length steps
    → slice_get (map (λ (step : StepLine). step.line) steps) k ≡ Some (slice_index_or steps k d).line
line_at [] k d inside = absurd (omega (arith, inside))
line_at (step ∷ steps) zero d inside = refl
line_at (step ∷ steps) (suc k) d inside = line_at steps k d (omega (arith, inside))

-- a step wasn't legal
pub stopped : (input : List ℕ) (plan : LabPlan) (seen steps : List StepLine) (old new : WorldView) (line : ℕ)
    → seen ≡ steps → old ≡ at_start plan (the_opening plan)
    → StepsMean input plan steps → TakesSteps old seen (Err line) new → HasIllegalStep input line
stopped input plan seen steps old new line same start means taken =
    let t = subst (λ w. TakesSteps w seen (Err line) new) start taken in
    record {
      plan = plan;
      steps = seen;
      means = subst (λ l. StepsMean input plan l) (sym same) means;
      stops = record { place = t.0; state = new.state; stops = t.1; at_line = t.2 };
    }

-- all were legal
pub replayed : IsReportOfEvents → HoldsOfEveryRun
    → (input : List ℕ) (plan : LabPlan) (seen steps : List StepLine) (old new : WorldView) (outcome : Outcome) → IsPlan plan → seen ≡ steps
    → old ≡ at_start plan (the_opening plan) → StepsMean input plan steps
    → TakesSteps old seen (Ok tt) new → outcome ≡ outcome_of (all_retired new.plan (shown_by new))
    → ReplaysScript input (report_of new.plan (shown_by new)) outcome
replayed law holds input plan seen steps old new outcome within same start means taken ends =
    let led : LeadsTo (at_start plan (the_opening plan)) (run_of plan seen) new = subst (λ w. TakesSteps w seen (Ok tt) new) start taken in
    let (same_report, same_end) = law plan (the_opening plan) (run_of plan seen) new led in
    record {
      plan = plan;
      steps = seen;
      means = subst (λ l. StepsMean input plan l) (sym same) means;
      reported = record {
        within_limits = within;
        legal = led.run.legal;
        report = same_report;
        ends = ends ∙ ap outcome_of same_end;
        holds = holds plan (run_of plan seen) within led.run.legal;
      };
    }
