-- Rankings of jobs by precedence.
use Rattle.std.specs.Prelude.{◌≢◌, ℕ, ◌<◌, List, length, slice_index_or}
use Rattle.std.specs.List.{All, AllPairs, Contains}
use Rattle.lab_plan.specs.LabPlan.{LabPlan}
use Rattle.legal_steps.specs.State.{State}
use Rattle.legal_steps.specs.Legal.{IsJob}
use Rattle.legal_steps.specs.Precedence.{Precedes}

-- every job of the plan once, each before all that it precedes
pub record IsRankingOf (plan : LabPlan) (s : State) (order : List ℕ) : Type 0 where
  pub every : (j : ℕ) → IsJob plan j → Contains order j
  pub none_else : All (IsJob plan) order
  pub once : AllPairs (λ a b. a ≢ b) order
  pub in_order : (i k : ℕ) → i < length order → k < length order → Precedes plan s (slice_index_or order i 0) (slice_index_or order k 0) → i < k
