-- For readers: what `script` and `steps` write for a journal, and which inputs they refuse.
use Rattle.std.specs.Prelude.{◌≡◌, ℕ, List, ◌++◌, codes, map, take, Option, None, Result}
use Rattle.lab_plan.specs.LabPlan.{LabPlan}
use Rattle.lab_plan.specs.Upgrade.{script_text}
use Rattle.legal_steps.specs.declared.event.Step.{Step}
use Rattle.legal_steps.specs.declared.event.StepLine.{StepLine}
use Rattle.legal_steps.specs.Opening.{the_opening}
use Rattle.legal_steps.specs.Run.{IsLegalFrom}
use Rattle.script_reader.specs.Script.{ScriptMeans}
use Rattle.script_reader.specs.Steps.{StepsMean}
use Rattle.explaining.specs.Explanations.{events_from_opening}
use Rattle.written_steps.specs.StepLists.{step_lines, steps_behind}
use Rattle.lab_program.specs.declared.faults.RunFault.{RunFault}
use Rattle.lab_program.specs.declared.faults.Outcome.{Outcome}
use Rattle.lab_program.specs.declared.faults.Outcome.TheVariants.{Finished}
use Rattle.lab_program.specs.Answers.{AnswersTo}
use Rattle.journal_texts.specs.Lines.{AreWholeLines}
use Rattle.journal_texts.specs.Sums.{wrong_sum}
use Rattle.lab_journal.specs.Meaning.{JournalMeans}
use Rattle.lab_journal.specs.Resumed.{IsNotResumed}

-- The whole lines of the input are a journal of this plan, which has all sessions that came, and of these steps. All of them are legal, one after another from
-- the initial state on, and no sum is wrong
pub record IsJournal (input : List ℕ) (plan : LabPlan) (steps : List StepLine) : Type 0 where
  pub n : ℕ
  pub lines : AreWholeLines input n
  pub means : JournalMeans (take n input) plan steps
  pub sums : wrong_sum (take n input) ≡ None
  pub legal : IsLegalFrom plan (the_opening plan) (events_from_opening plan steps)

-- ---- what is written

-- the same plan in version 2
abbrev pub upgraded : LabPlan → LabPlan
upgraded plan = record plan { version = 2 }

-- the text is the script of version 2 that means this plan
pub record WritesScript (input text : List ℕ) (outcome : Outcome) : Type 0 where
  pub plan : LabPlan
  pub steps : List StepLine
  pub journal : IsJournal input plan steps
  pub written : text ≡ script_text plan
  pub means : ScriptMeans text (upgraded plan)
  pub ends : outcome ≡ Finished

-- steps without the numbers of their lines
abbrev pub bare : List StepLine → List Step
bare steps = map (λ line. line.step) steps

-- this script, a line `steps`, and the steps, one a line
abbrev pub steps_text : LabPlan → List StepLine → List ℕ
steps_text plan steps = script_text plan ++ codes "steps\n" ++ step_lines plan (bare steps)

-- the same steps, in the lines in which they stand there
abbrev pub steps_there : LabPlan → List StepLine → List StepLine
steps_there plan steps = steps_behind (script_text plan) (bare steps)

-- The text is read as this plan in version 2 and exactly these steps: they have the same events, which are legal there too
pub record WritesSteps (input text : List ℕ) (outcome : Outcome) : Type 0 where
  pub plan : LabPlan
  pub steps : List StepLine
  pub journal : IsJournal input plan steps
  pub written : text ≡ steps_text plan steps
  pub means : StepsMean text (upgraded plan) (steps_there plan steps)
  pub same_events : events_from_opening (upgraded plan) (steps_there plan steps) ≡ events_from_opening plan steps
  pub legal : IsLegalFrom (upgraded plan) (the_opening (upgraded plan)) (events_from_opening plan steps)
  pub ends : outcome ≡ Finished

-- ---- what a run answers: an input is refused as a lab that is to come back from it refuses it

abbrev pub ScriptAnswers : Option (List ℕ) → Option (List ℕ) → Option (List ℕ) → Result Outcome RunFault → Type 0
ScriptAnswers left old new result = AnswersTo WritesScript IsNotResumed left old new result

abbrev pub StepsAnswers : Option (List ℕ) → Option (List ℕ) → Option (List ℕ) → Result Outcome RunFault → Type 0
StepsAnswers left old new result = AnswersTo WritesSteps IsNotResumed left old new result
