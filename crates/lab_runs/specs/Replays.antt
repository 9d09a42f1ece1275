-- For readers: what a replay writes for an input, and which inputs it refuses.
use Rattle.std.specs.Prelude.{◌≡◌, ℕ, List, map, slice_get, Option, Some, Result}
use Rattle.lab_plan.specs.LabPlan.{LabPlan}
use Rattle.legal_steps.specs.declared.event.Event.{Event}
use Rattle.legal_steps.specs.declared.event.StepLine.{StepLine}
use Rattle.legal_steps.specs.State.{State}
use Rattle.legal_steps.specs.Run.{StopsAt}
use Rattle.legal_steps.specs.Steps.{step_events}
use Rattle.legal_steps.specs.Opening.{the_opening}
use Rattle.script_reader.specs.Steps.{StepsMean, StepsRefuse}
use Rattle.lab_program.specs.declared.faults.RunFault.{RunFault}
use Rattle.lab_program.specs.declared.faults.RunFault.TheVariants.{Script, Step}
use Rattle.lab_program.specs.declared.faults.Outcome.{Outcome}
use Rattle.lab_program.specs.Answers.{AnswersTo}
use Rattle.lab_program.specs.Reports.{Reports}

-- ---- the run of some steps from the initial state

-- their events, one after another
abbrev pub run_of : LabPlan → List StepLine → List Event
run_of plan steps = step_events plan (the_opening plan) (map (λ line. line.step) steps)

-- this line's step is the first that isn't legal
pub record StopsAtLine (plan : LabPlan) (steps : List StepLine) (line : ℕ) : Type 0 where
  pub place : ℕ
  pub state : State
  pub stops : StopsAt plan (the_opening plan) (run_of plan steps) place state
  pub at_line : slice_get (map (λ step. step.line) steps) place ≡ Some line

-- ---- what is written for an input, and which inputs are refused

-- the input is a script with steps, all legal, and the text is the report of their run
pub record ReplaysScript (input text : List ℕ) (outcome : Outcome) : Type 0 where
  pub plan : LabPlan
  pub steps : List StepLine
  pub means : StepsMean input plan steps
  pub reported : Reports plan (run_of plan steps) text outcome

-- the input is a script with steps, of which this line's is the first that isn't legal
pub record HasIllegalStep (input : List ℕ) (line : ℕ) : Type 0 where
  pub plan : LabPlan
  pub steps : List StepLine
  pub means : StepsMean input plan steps
  pub stops : StopsAtLine plan steps line

abbrev pub ReplayRefuses : List ℕ → RunFault → Type 0
ReplayRefuses input (Script fault) = StepsRefuse input fault
ReplayRefuses input (Step line) = HasIllegalStep input line
ReplayRefuses input _ = ⊥

-- ---- what a replay answers

abbrev pub ReplayAnswers : Option (List ℕ) → Option (List ℕ) → Option (List ℕ) → Result Outcome RunFault → Type 0
ReplayAnswers left old new result = AnswersTo ReplaysScript ReplayRefuses left old new result
