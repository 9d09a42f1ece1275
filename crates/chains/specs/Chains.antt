-- For readers: chains of precedence in the initial state of a plan.
use Rattle.std.specs.Prelude.{◌≡◌, ℕ, ◌<◌, ◌≤◌, Bool, true, nat_lt, List, [], ◌∷◌, length, Option, None, Some, slice_index_or}
use Rattle.lab_plan.specs.LabPlan.{LabPlan}
use Rattle.legal_steps.specs.Opening.{the_opening}
use Rattle.legal_steps.specs.Precedence.{Precedes}

-- jobs of the plan, each of which precedes the next in the initial state
abbrev pub IsChain : LabPlan → List ℕ → Type 0
IsChain plan [] = Unit {0}
IsChain plan (job ∷ []) = job < length plan.jobs
IsChain plan (job ∷ next ∷ later) = Precedes plan (the_opening plan) job next × IsChain plan (next ∷ later)

-- no chain is longer
pub record IsLongestChain (plan : LabPlan) (chain : List ℕ) : Type 0 where
  pub is_chain : IsChain plan chain
  pub longest : (other : List ℕ) → IsChain plan other → length other ≤ length chain

-- no chain that begins with this job is longer
pub record IsLongestFrom (plan : LabPlan) (job : ℕ) (chain : List ℕ) : Type 0 where
  pub later : List ℕ
  pub begins : chain ≡ job ∷ later
  pub is_chain : IsChain plan (job ∷ later)
  pub longest : (other : List ℕ) → IsChain plan (job ∷ other) → length other ≤ length later

-- the chain with this number
abbrev pub chain_at : List (List ℕ) → ℕ → List ℕ
chain_at chains j = slice_index_or chains j []

-- one for each of the first jobs
abbrev pub AreLongest : LabPlan → List (List ℕ) → Type 0
AreLongest plan chains = (j : ℕ) → j < length chains → IsLongestFrom plan j (chain_at chains j)

-- of the jobs below n that this one precedes, one with a longest chain, if there is any
abbrev pub IsBestBelow : LabPlan → List (List ℕ) → ℕ → ℕ → Option ℕ → Type 0
IsBestBelow plan chains job n None = (k : ℕ) → k < n → ¬ Precedes plan (the_opening plan) job k
IsBestBelow plan chains job n (Some best) = (best < n) × Precedes plan (the_opening plan) job best
    × ((k : ℕ) → k < n → Precedes plan (the_opening plan) job k → length (chain_at chains k) ≤ length (chain_at chains best))

-- longer than the best so far, if there is one
abbrev pub is_longer : List (List ℕ) → ℕ → Option ℕ → Bool
is_longer chains k None = true
is_longer chains k (Some best) = nat_lt (length (chain_at chains best)) (length (chain_at chains k))
