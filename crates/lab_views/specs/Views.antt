-- For readers: what the views write for an input, and which inputs they refuse.
use Rattle.std.specs.Prelude.{◌≡◌, ℕ, List, Option, Result}
use Rattle.lab_plan.specs.LabPlan.{LabPlan}
use Rattle.legal_steps.specs.declared.event.StepLine.{StepLine}
use Rattle.script_reader.specs.Steps.{StepsMean, StepsRefuse}
use Rattle.explaining.specs.Explanations.{Tells}
use Rattle.lab_program.specs.declared.faults.RunFault.{RunFault}
use Rattle.lab_program.specs.declared.faults.RunFault.TheVariants.{Script}
use Rattle.lab_program.specs.declared.faults.Outcome.{Outcome}
use Rattle.lab_program.specs.declared.faults.Outcome.TheVariants.{Finished}
use Rattle.lab_program.specs.Answers.{AnswersTo}

-- the input is a script with steps, and the text tells of the first that isn't legal, or of their end
pub record Explains (input text : List ℕ) (outcome : Outcome) : Type 0 where
  pub plan : LabPlan
  pub steps : List StepLine
  pub means : StepsMean input plan steps
  pub refused : Option ℕ
  pub tells : Tells plan steps refused text
  pub ends : outcome ≡ Finished

-- the input is no script with steps
abbrev pub StepsAreRefused : List ℕ → RunFault → Type 0
StepsAreRefused input (Script fault) = StepsRefuse input fault
StepsAreRefused input _ = ⊥

abbrev pub ExplainAnswers : Option (List ℕ) → Option (List ℕ) → Option (List ℕ) → Result Outcome RunFault → Type 0
ExplainAnswers left old new result = AnswersTo Explains StepsAreRefused left old new result
