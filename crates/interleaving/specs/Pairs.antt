-- Precedence as a list of pairs of jobs, one for each edge.
use Rattle.std.specs.Prelude.{◌≡◌, ℕ, ◌<◌, List, length, slice_index_or}
use Rattle.lab_plan.specs.LabPlan.{LabPlan, edges}
use Rattle.legal_steps.specs.State.{State}
use Rattle.legal_steps.specs.Precedence.{PrecedesOn}

-- the first of the pair precedes the second on the edge
abbrev pub PairPrecedesOn : LabPlan → State → ℕ → ℕ × ℕ → Type 0
PairPrecedesOn plan s e pair = PrecedesOn plan s e pair.0 pair.1

-- one pair for each edge, by edge number: who precedes on it, and whom
pub record IsPrecedenceByEdge (plan : LabPlan) (s : State) (pairs : List (ℕ × ℕ)) : Type 0 where
  pub one_each : length pairs ≡ length (edges plan)
  pub each : (e : ℕ) → e < length (edges plan) → PairPrecedesOn plan s e (slice_index_or pairs e (0, 0))
