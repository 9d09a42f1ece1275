-- For readers: what is promised of each run that is reported.
use Rattle.std.specs.Prelude.{◌≡◌, ℕ, List, Bool, true, false}
use Rattle.lab_plan.specs.LabPlan.{LabPlan}
use Rattle.lab_plan.specs.IsPlan.{IsPlan}
use Rattle.legal_steps.specs.declared.event.Event.{Event}
use Rattle.legal_steps.specs.Run.{IsLegalFrom}
use Rattle.legal_steps.specs.Opening.{the_opening}
use Rattle.report.specs.Events.{report_after, retired_after}
use Rattle.headline.specs.Headline.{HoldsOf}
use Rattle.lab_program.specs.declared.faults.Outcome.{Outcome}
use Rattle.lab_program.specs.declared.faults.Outcome.TheVariants.{Finished, Unfinished}

abbrev pub outcome_of : Bool → Outcome
outcome_of true = Finished
outcome_of false = Unfinished

-- The run is a list of events, each legal after the ones before it from the initial state on;
-- the text is its report; it is finished exactly if every job is retired after it; and the headline holds of it: logs are whole
-- except for their ends, values follow the dial, no two jobs hold one instrument, precedence has no cycle, and whoever asked for a fork
-- is overtaken by one meal at most
pub record Reports (plan : LabPlan) (history : List Event) (text : List ℕ) (outcome : Outcome) : Type 0 where
  pub within_limits : IsPlan plan
  pub legal : IsLegalFrom plan (the_opening plan) history
  pub report : text ≡ report_after plan (the_opening plan) history
  pub ends : outcome ≡ outcome_of (retired_after plan (the_opening plan) history)
  pub holds : HoldsOf plan history
