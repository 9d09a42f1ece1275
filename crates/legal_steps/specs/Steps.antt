-- For readers: lists of steps: what a look or a glance sees is what is there when its turn comes.
use Rattle.std.specs.Prelude.{◌<◌, List, [], ◌∷◌, length}
use Rattle.lab_plan.specs.LabPlan.{LabPlan, edges}
use Rattle.legal_steps.specs.declared.event.Event.{Event}
use Rattle.legal_steps.specs.declared.event.Event.TheVariants as events
use Rattle.legal_steps.specs.declared.event.Step.{Step}
use Rattle.legal_steps.specs.declared.event.Step.TheVariants.{Look, AskFork, GiveFork, Soil, AskBottles, GiveBottles, Thirst, Hunger}
use Rattle.legal_steps.specs.declared.event.Step.TheVariants.{Sit, Leave, Drink, Reach, Act, Quit, Retire, Glance, Withdraw}
use Rattle.legal_steps.specs.State.{State, edge, phase}
use Rattle.legal_steps.specs.Legal.{after}

-- the event of a step in a state
abbrev pub event_of : State → Step → Event
event_of s (Look j e) = events.Look j e (edge s e)
event_of s (AskFork j e) = events.AskFork j e
event_of s (GiveFork j e) = events.GiveFork j e
event_of s (Soil j e) = events.Soil j e
event_of s (AskBottles j e set) = events.AskBottles j e set
event_of s (GiveBottles j e set) = events.GiveBottles j e set
event_of s (Thirst j) = events.Thirst j
event_of s (Hunger j) = events.Hunger j
event_of s (Sit j) = events.Sit j
event_of s (Leave j) = events.Leave j
event_of s (Drink j) = events.Drink j
event_of s (Reach j) = events.Reach j
event_of s (Act j) = events.Act j
event_of s (Quit j) = events.Quit j
event_of s (Retire j) = events.Retire j
event_of s (Glance j other) = events.Glance j other (phase s other)
event_of s (Withdraw j) = events.Withdraw j

-- the events of some steps one after another from s
abbrev pub step_events : LabPlan → State → List Step → List Event
step_events plan s [] = []
step_events plan s (step ∷ steps) = event_of s step ∷ step_events plan (after plan s (event_of s step)) steps

-- the step's jobs and edges are the plan's
abbrev pub IsStepOf : LabPlan → Step → Type 0
IsStepOf plan (Look j e) = (j < length plan.jobs) × (e < length (edges plan))
IsStepOf plan (AskFork j e) = (j < length plan.jobs) × (e < length (edges plan))
IsStepOf plan (GiveFork j e) = (j < length plan.jobs) × (e < length (edges plan))
IsStepOf plan (Soil j e) = (j < length plan.jobs) × (e < length (edges plan))
IsStepOf plan (AskBottles j e set) = (j < length plan.jobs) × (e < length (edges plan))
IsStepOf plan (GiveBottles j e set) = (j < length plan.jobs) × (e < length (edges plan))
IsStepOf plan (Thirst j) = j < length plan.jobs
IsStepOf plan (Hunger j) = j < length plan.jobs
IsStepOf plan (Sit j) = j < length plan.jobs
IsStepOf plan (Leave j) = j < length plan.jobs
IsStepOf plan (Drink j) = j < length plan.jobs
IsStepOf plan (Reach j) = j < length plan.jobs
IsStepOf plan (Act j) = j < length plan.jobs
IsStepOf plan (Quit j) = j < length plan.jobs
IsStepOf plan (Retire j) = j < length plan.jobs
IsStepOf plan (Glance j other) = (j < length plan.jobs) × (other < length plan.jobs)
IsStepOf plan (Withdraw j) = j < length plan.jobs
