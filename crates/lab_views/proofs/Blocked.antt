-- What is written for an input whose blocks are told.
use Rattle.std.proofs.Common.{◌≡◌, ℕ, List, refl, ◌∙◌}
use Rattle.lab_plan.specs.LabPlan.{LabPlan}
use Rattle.script_reader.specs.Script.{ScriptMeans}
use Rattle.blocking.specs.Blocks.{RunView, IsBlockedRun}
use Rattle.block_lines.specs.Text.{blocks_text}
use Rattle.lab_program.specs.declared.faults.Outcome.TheVariants.{Finished}
use Rattle.lab_views.specs.Blocks.{TellsBlocks}

pub blocked : (limit : ℕ) (input : List ℕ) (plan : LabPlan) (run : RunView) (sent text : List ℕ) → sent ≡ text → ScriptMeans input plan
    → IsBlockedRun plan limit run → text ≡ blocks_text plan run.number run.retired run.blocks → TellsBlocks limit input sent Finished
blocked limit input plan run sent text whole means is_run written = record {
  plan = plan;
  means = means;
  run = run;
  is_run = is_run;
  written = whole ∙ written;
  ends = refl;
}
