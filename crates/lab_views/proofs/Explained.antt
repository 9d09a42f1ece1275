-- What is written for an input whose steps were told of.
use Rattle.std.proofs.Common.{◌≡◌, ℕ, List, Option, refl, sym, subst}
use Rattle.lab_plan.specs.LabPlan.{LabPlan}
use Rattle.legal_steps.specs.declared.event.StepLine.{StepLine}
use Rattle.script_reader.specs.Steps.{StepsMean}
use Rattle.explaining.specs.Explanations.{Tells}
use Rattle.lab_program.specs.declared.faults.Outcome.TheVariants.{Finished}
use Rattle.lab_views.specs.Views.{Explains}

pub explained : (input : List ℕ) (plan : LabPlan) (seen steps : List StepLine) (refused : Option ℕ) (sent text : List ℕ) → seen ≡ steps → sent ≡ text → StepsMean input plan steps → Tells plan seen refused text → Explains input sent Finished
explained input plan seen steps refused sent text same whole means tells = record {
  plan = plan;
  steps = seen;
  means = subst (StepsMean input plan) (sym same) means;
  refused = refused;
  tells = subst (Tells plan seen refused) (sym whole) tells;
  ends = refl;
}
