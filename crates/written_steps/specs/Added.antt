-- For readers: each move that an explanation lists can be pasted. It is read as that move, and is legal there: behind all steps, or in the place of
-- the step that isn't legal.
use Rattle.std.specs.Prelude.{◌≡◌, ℕ, List, [], ◌∷◌, ◌++◌, Some, take}
use Rattle.std.specs.List.{Contains}
use Rattle.lab_plan.specs.LabPlan.{LabPlan}
use Rattle.lab_plan.specs.IsPlan.{IsPlan}
use Rattle.legal_steps.specs.declared.event.Event.{Event}
use Rattle.legal_steps.specs.declared.event.Step.{Step}
use Rattle.legal_steps.specs.declared.event.StepLine.{StepLine}
use Rattle.legal_steps.specs.State.{State}
use Rattle.legal_steps.specs.Legal.{after}
use Rattle.legal_steps.specs.Steps.{event_of}
use Rattle.legal_steps.specs.Opening.{the_opening}
use Rattle.legal_steps.specs.Run.{Runs}
use Rattle.script_reader.specs.Steps.{step_in}
use Rattle.step_texts.specs.StepTexts.{step_text}
use Rattle.explaining.specs.Explanations.{TellsAll, TellsRefusal, events_from_opening}

-- the move's text is read as the move, and these events with the move behind them are a legal run
pub record CanBeAdded (plan : LabPlan) (events : List Event) (s : State) (move : Step) : Type 0 where
  pub read : step_in plan (step_text plan move) ≡ Some (Some move)
  pub runs : Runs plan (the_opening plan) (events ++ event_of s move ∷ []) (after plan s (event_of s move))

-- of a list whose steps are all legal: behind its last step
abbrev pub AreLegalAtEnd : Type 0
AreLegalAtEnd = (plan : LabPlan) (lines : List StepLine) (text : List ℕ) → IsPlan plan → (t : TellsAll plan lines text) (move : Step)
    → Contains t.tells.moves move → CanBeAdded plan (events_from_opening plan lines) t.state move

-- of a list with a step that isn't legal: in the place of this step
abbrev pub AreLegalInPlace : Type 0
AreLegalInPlace = (plan : LabPlan) (lines : List StepLine) (number : ℕ) (text : List ℕ) → IsPlan plan → (t : TellsRefusal plan lines number text) (move : Step)
    → Contains t.tells.moves move → CanBeAdded plan (take t.place (events_from_opening plan lines)) t.state move
