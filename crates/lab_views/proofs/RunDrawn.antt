-- What is written for an input whose run is drawn.
use Rattle.std.proofs.Common.{◌≡◌, ℕ, List, refl, ◌∙◌}
use Rattle.lab_plan.specs.LabPlan.{LabPlan}
use Rattle.script_reader.specs.Script.{ScriptMeans}
use Rattle.blocking.specs.Keepers.{KeptView, IsKeptRun}
use Rattle.round_picture.specs.Gantt.{gantt_of}
use Rattle.lab_program.specs.declared.faults.Outcome.TheVariants.{Finished}
use Rattle.lab_views.specs.Gantts.{DrawsRun}

pub drawn_run : (limit : ℕ) (input : List ℕ) (plan : LabPlan) (run : KeptView) (sent text : List ℕ) → sent ≡ text
    → ScriptMeans input plan → IsKeptRun plan limit run → text ≡ gantt_of plan run → DrawsRun limit input sent Finished
drawn_run limit input plan run sent text whole means is_run written = record {
  plan = plan;
  means = means;
  run = run;
  is_run = is_run;
  written = whole ∙ written;
  ends = refl;
}
