-- For readers: which job reaches for which instrument.
use Rattle.std.specs.Prelude.{◌≡◌, ℕ}
use Rattle.lab_plan.specs.LabPlan.{LabPlan}
use Rattle.legal_steps.specs.declared.phase.Drinking.TheVariants.{Reaching}
use Rattle.legal_steps.specs.State.{State, drinking}
use Rattle.legal_steps.specs.Legal.{IsJob, next_command}

-- job j reaches for instrument i
pub record IsReachingFor (plan : LabPlan) (s : State) (j i : ℕ) : Type 0 where
  pub job : IsJob plan j
  pub reaching : drinking s j ≡ Reaching
  pub next : (next_command plan s j).0 ≡ i
