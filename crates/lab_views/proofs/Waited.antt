-- What is written for an input whose waits are told.
use Rattle.std.proofs.Common.{◌≡◌, ℕ, List, refl, ap, ◌∙◌}
use Rattle.lab_plan.specs.LabPlan.{LabPlan}
use Rattle.script_reader.specs.Script.{ScriptMeans}
use Rattle.waiting.specs.Waits.{RunView, IsRunOf}
use Rattle.waiting.specs.Text.{waits_text}
use Rattle.chains.specs.Chains.{IsLongestChain}
use Rattle.lab_program.specs.declared.faults.Outcome.TheVariants.{Finished}
use Rattle.lab_views.specs.Waits.{TellsWaits}

pub waited : (limit : ℕ) (input : List ℕ) (plan : LabPlan) (run : RunView) (chain seen sent text : List ℕ) → seen ≡ chain → sent ≡ text
    → ScriptMeans input plan → IsRunOf plan limit run → IsLongestChain plan chain → text ≡ waits_text plan run seen → TellsWaits limit input sent Finished
waited limit input plan run chain seen sent text same whole means is_run longest written = record {
  plan = plan;
  means = means;
  run = run;
  is_run = is_run;
  chain = chain;
  longest = longest;
  written = whole ∙ (written ∙ ap (waits_text plan run) same);
  ends = refl;
}
