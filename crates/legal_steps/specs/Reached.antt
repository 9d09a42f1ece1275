-- States that are reached from an opening state.
use Rattle.std.specs.Prelude.{List}
use Rattle.lab_plan.specs.LabPlan.{LabPlan}
use Rattle.lab_plan.specs.IsPlan.{IsPlan}
use Rattle.legal_steps.specs.declared.event.Event.{Event}
use Rattle.legal_steps.specs.State.{State}
use Rattle.legal_steps.specs.Run.{Runs}
use Rattle.legal_steps.specs.Precedence.{IsAcyclic}
use Rattle.legal_steps.specs.Opening.{IsOpening}

-- a legal list of events leads from an acyclic opening state to this one
pub record IsReached (plan : LabPlan) (s : State) : Type 0 where
  pub is_plan : IsPlan plan
  pub opening : State
  pub is_opening : IsOpening plan opening
  pub acyclic : IsAcyclic plan opening
  pub events : List Event
  pub run : Runs plan opening events s
