-- For readers: a step that is written is read back as itself.
use Rattle.std.specs.Prelude.{◌≡◌, ◌≢◌, Some}
use Rattle.lab_plan.specs.LabPlan.{LabPlan}
use Rattle.lab_plan.specs.IsPlan.{IsPlan}
use Rattle.legal_steps.specs.declared.event.Step.{Step}
use Rattle.legal_steps.specs.declared.event.Step.TheVariants.{Look, AskFork, GiveFork, Soil, AskBottles, GiveBottles, Thirst, Hunger}
use Rattle.legal_steps.specs.declared.event.Step.TheVariants.{Sit, Leave, Drink, Reach, Act, Quit, Retire, Glance, Withdraw}
use Rattle.legal_steps.specs.State.{State, IsOwn}
use Rattle.legal_steps.specs.Legal.{May, IsJob, IsBottleSet}
use Rattle.legal_steps.specs.Steps.{event_of}
use Rattle.script_reader.specs.Steps.{step_in}
use Rattle.step_texts.specs.StepTexts.{step_text}

-- a step that a list of steps can name: of a job of the plan, at an edge of its own, with some of the edge's bottles, at another job
abbrev pub IsNameable : LabPlan → Step → Type 0
IsNameable plan (Look j e) = IsOwn plan j e
IsNameable plan (AskFork j e) = IsOwn plan j e
IsNameable plan (GiveFork j e) = IsOwn plan j e
IsNameable plan (Soil j e) = IsOwn plan j e
IsNameable plan (AskBottles j e set) = IsOwn plan j e × IsBottleSet plan e set
IsNameable plan (GiveBottles j e set) = IsOwn plan j e × IsBottleSet plan e set
IsNameable plan (Thirst j) = IsJob plan j
IsNameable plan (Hunger j) = IsJob plan j
IsNameable plan (Sit j) = IsJob plan j
IsNameable plan (Leave j) = IsJob plan j
IsNameable plan (Drink j) = IsJob plan j
IsNameable plan (Reach j) = IsJob plan j
IsNameable plan (Act j) = IsJob plan j
IsNameable plan (Quit j) = IsJob plan j
IsNameable plan (Retire j) = IsJob plan j
IsNameable plan (Glance j other) = IsJob plan j × IsJob plan other × (other ≢ j)
IsNameable plan (Withdraw j) = IsJob plan j

-- the text of each such step is a line that is read as this step
abbrev pub IsReadBack : Type 0
IsReadBack = (plan : LabPlan) (step : Step) → IsPlan plan → IsNameable plan step → step_in plan (step_text plan step) ≡ Some (Some step)

-- so is the text of each step that is legal in some state
abbrev pub AreLegalReadBack : Type 0
AreLegalReadBack =
    (plan : LabPlan) (s : State) (step : Step) → IsPlan plan → May plan s (event_of s step) → step_in plan (step_text plan step) ≡ Some (Some step)
