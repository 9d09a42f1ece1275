-- Tables over the edges: the number of each pair of jobs.
use Rattle.std.specs.Prelude.{◌≡◌, ℕ, ◌+◌, ◌<◌, ◌*◌, Contains, Option, None, Some, slice_get, List, slice_index_or}
use Rattle.lab_plan.specs.Limits.{most_jobs}

-- a pair of jobs of a plan, the lower number first
abbrev pub IsPair : ℕ × ℕ → Type 0
IsPair pair = (pair.0 < pair.1) × (pair.1 < most_jobs)

-- the number of a pair among the pairs, or that it is none of them
abbrev pub IsNumber : List (ℕ × ℕ) → ℕ × ℕ → Option ℕ → Type 0
IsNumber pairs pair (Some e) = slice_get pairs e ≡ Some pair
IsNumber pairs pair None = Contains pairs pair → ⊥

-- a table over pairs of jobs has the pair (a, b) at most_jobs a + b
abbrev pub AreNumbers : List (ℕ × ℕ) → List (Option ℕ) → Type 0
AreNumbers pairs numbers = (a b : ℕ) → a < most_jobs → b < most_jobs → IsNumber pairs (a, b) (slice_index_or numbers (a * most_jobs + b) None)
