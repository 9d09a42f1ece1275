-- For readers: what `waits N` writes for a script: where the waiting comes from, as numbers.
use Rattle.std.specs.Prelude.{◌≡◌, ℕ, List, Option, Result}
use Rattle.lab_plan.specs.LabPlan.{LabPlan}
use Rattle.script_reader.specs.Script.{ScriptMeans}
use Rattle.waiting.specs.Waits.{RunView, IsRunOf}
use Rattle.waiting.specs.Text.{waits_text}
use Rattle.chains.specs.Chains.{IsLongestChain}
use Rattle.lab_program.specs.declared.faults.RunFault.{RunFault}
use Rattle.lab_program.specs.declared.faults.Outcome.{Outcome}
use Rattle.lab_program.specs.declared.faults.Outcome.TheVariants.{Finished}
use Rattle.lab_program.specs.Answers.{ScriptRefuses, AnswersTo}

-- The input is a script, the run is the one by at most this many rounds, no chain of precedence in the initial state is longer, and the text tells of both
pub record TellsWaits (limit : ℕ) (input text : List ℕ) (outcome : Outcome) : Type 0 where
  pub plan : LabPlan
  pub means : ScriptMeans input plan
  pub run : RunView
  pub is_run : IsRunOf plan limit run
  pub chain : List ℕ
  pub longest : IsLongestChain plan chain
  pub written : text ≡ waits_text plan run chain
  pub ends : outcome ≡ Finished

abbrev pub WaitsAnswers : ℕ → Option (List ℕ) → Option (List ℕ) → Option (List ℕ) → Result Outcome RunFault → Type 0
WaitsAnswers limit left old new result = AnswersTo (TellsWaits limit) ScriptRefuses left old new result
