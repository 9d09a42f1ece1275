-- For readers: chains of precedence at the start.
use Rattle.std.specs.Prelude.{ℕ, ◌<◌, ◌≤◌, List, [], ◌∷◌, length}
use Rattle.std.specs.List.{All}
use Rattle.std.specs.List.Sorted.{IsNonDecreasing}
use Rattle.lab_plan.specs.LabPlan.{LabPlan}
use Rattle.legal_steps.specs.State.{State}
use Rattle.legal_steps.specs.Precedence.{Precedes}
use Rattle.legal_steps.specs.Opening.{the_opening}
use Rattle.arranging.specs.Colours.{IsColouring}

-- each of the jobs precedes the next
abbrev pub EachPrecedes : LabPlan → State → List ℕ → Type 0
EachPrecedes plan s [] = Unit {0}
EachPrecedes plan s (job ∷ []) = Unit {0}
EachPrecedes plan s (job ∷ next ∷ jobs) = Precedes plan s job next × EachPrecedes plan s (next ∷ jobs)

-- a chain of precedence: jobs of the plan, each of which precedes the next
pub record IsChain (plan : LabPlan) (s : State) (jobs : List ℕ) : Type 0 where
  pub of_plan : All (λ job. job < length plan.jobs) jobs
  pub each : EachPrecedes plan s jobs

-- if the jobs of a plan stand in the order of their colours, no chain in the initial state has more jobs than there are colours
abbrev pub ChainsAreShort : Type 0
ChainsAreShort = (plan : LabPlan) (colours : List ℕ) (count : ℕ) → IsColouring plan colours count → IsNonDecreasing colours
    → (jobs : List ℕ) → IsChain plan (the_opening plan) jobs → length jobs ≤ count
