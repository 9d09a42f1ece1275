-- For readers: what `gantt N` writes for a script: the picture over time of its run by rounds.
use Rattle.std.specs.Prelude.{◌≡◌, ℕ, List, Option, Result}
use Rattle.lab_plan.specs.LabPlan.{LabPlan}
use Rattle.script_reader.specs.Script.{ScriptMeans}
use Rattle.blocking.specs.Keepers.{KeptView, IsKeptRun}
use Rattle.round_picture.specs.Gantt.{gantt_of}
use Rattle.lab_program.specs.declared.faults.RunFault.{RunFault}
use Rattle.lab_program.specs.declared.faults.Outcome.{Outcome}
use Rattle.lab_program.specs.declared.faults.Outcome.TheVariants.{Finished}
use Rattle.lab_program.specs.Answers.{ScriptRefuses, AnswersTo}

-- The input is a script, the run is the one by at most this many rounds, and the text is the picture of that run
pub record DrawsRun (limit : ℕ) (input text : List ℕ) (outcome : Outcome) : Type 0 where
  pub plan : LabPlan
  pub means : ScriptMeans input plan
  pub run : KeptView
  pub is_run : IsKeptRun plan limit run
  pub written : text ≡ gantt_of plan run
  pub ends : outcome ≡ Finished

abbrev pub GanttAnswers : ℕ → Option (List ℕ) → Option (List ℕ) → Option (List ℕ) → Result Outcome RunFault → Type 0
GanttAnswers limit left old new result = AnswersTo (DrawsRun limit) ScriptRefuses left old new result
