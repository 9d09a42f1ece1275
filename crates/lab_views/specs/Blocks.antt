-- For readers: what `blocks N` writes for a script: who keeps whom waiting.
use Rattle.std.specs.Prelude.{◌≡◌, ℕ, List, Option, Result}
use Rattle.lab_plan.specs.LabPlan.{LabPlan}
use Rattle.script_reader.specs.Script.{ScriptMeans}
use Rattle.blocking.specs.Blocks.{RunView, IsBlockedRun}
use Rattle.block_lines.specs.Text.{blocks_text}
use Rattle.lab_program.specs.declared.faults.RunFault.{RunFault}
use Rattle.lab_program.specs.declared.faults.Outcome.{Outcome}
use Rattle.lab_program.specs.declared.faults.Outcome.TheVariants.{Finished}
use Rattle.lab_program.specs.Answers.{ScriptRefuses, AnswersTo}

-- The input is a script, the run is the one by at most this many rounds, and the text tells who kept whom waiting in it
pub record TellsBlocks (limit : ℕ) (input text : List ℕ) (outcome : Outcome) : Type 0 where
  pub plan : LabPlan
  pub means : ScriptMeans input plan
  pub run : RunView
  pub is_run : IsBlockedRun plan limit run
  pub written : text ≡ blocks_text plan run.number run.retired run.blocks
  pub ends : outcome ≡ Finished

abbrev pub BlocksAnswers : ℕ → Option (List ℕ) → Option (List ℕ) → Option (List ℕ) → Result Outcome RunFault → Type 0
BlocksAnswers limit left old new result = AnswersTo (TellsBlocks limit) ScriptRefuses left old new result
