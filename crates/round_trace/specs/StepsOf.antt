-- For readers: the steps of events, as they are written in a list: a look or a glance without what it saw.
use Rattle.std.specs.Prelude.{◌≡◌, List, map}
use Rattle.std.specs.List.{All}
use Rattle.lab_plan.specs.LabPlan.{LabPlan}
use Rattle.legal_steps.specs.declared.event.Event.{Event}
use Rattle.legal_steps.specs.declared.event.Event.TheVariants.{Look, AskFork, GiveFork, Soil, AskBottles, GiveBottles, Thirst, Hunger}
use Rattle.legal_steps.specs.declared.event.Event.TheVariants.{Sit, Leave, Drink, Reach, Act, Quit, Retire, Glance, Withdraw}
use Rattle.legal_steps.specs.declared.event.Step.{Step}
use Rattle.legal_steps.specs.declared.event.Step.TheVariants as steps
use Rattle.legal_steps.specs.State.{State}
use Rattle.legal_steps.specs.Run.{IsLegalFrom}
use Rattle.legal_steps.specs.Steps.{step_events, IsStepOf}

abbrev pub step_of : Event → Step
step_of (Look j e seen) = steps.Look j e
step_of (AskFork j e) = steps.AskFork j e
step_of (GiveFork j e) = steps.GiveFork j e
step_of (Soil j e) = steps.Soil j e
step_of (AskBottles j e set) = steps.AskBottles j e set
step_of (GiveBottles j e set) = steps.GiveBottles j e set
step_of (Thirst j) = steps.Thirst j
step_of (Hunger j) = steps.Hunger j
step_of (Sit j) = steps.Sit j
step_of (Leave j) = steps.Leave j
step_of (Drink j) = steps.Drink j
step_of (Reach j) = steps.Reach j
step_of (Act j) = steps.Act j
step_of (Quit j) = steps.Quit j
step_of (Retire j) = steps.Retire j
step_of (Glance j other seen) = steps.Glance j other
step_of (Withdraw j) = steps.Withdraw j

-- the steps of a legal list have exactly its events, one after another, so whoever replays them has the same run
abbrev pub StepsGiveEvents : Type 0
StepsGiveEvents = (plan : LabPlan) (s : State) (events : List Event) → IsLegalFrom plan s events → step_events plan s (map step_of events) ≡ events

-- and their jobs and edges are the plan's
abbrev pub StepsAreOfPlan : Type 0
StepsAreOfPlan = (plan : LabPlan) (s : State) (events : List Event) → IsLegalFrom plan s events → All (λ event. IsStepOf plan (step_of event)) events
