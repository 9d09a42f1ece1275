-- For readers: cycles of a relation among jobs.
use Rattle.std.specs.Prelude.{ℕ, ◌<◌, ◌≤◌, List, [], ◌∷◌}
use Rattle.std.specs.List.{All, Contains}

-- `job` leads to the first of `jobs`, each of them to the next, and the last back to `first`
abbrev pub LeadsBackTo : (ℕ → ℕ → Type 0) → ℕ → ℕ → List ℕ → Type 0
LeadsBackTo R first job [] = R job first
LeadsBackTo R first job (next ∷ jobs) = R job next × LeadsBackTo R first next jobs

-- a cycle of a relation: a nonempty list in which each leads to the next and the last to the first
abbrev pub IsCycleOf : (ℕ → ℕ → Type 0) → List ℕ → Type 0
IsCycleOf R [] = ⊥
IsCycleOf R (first ∷ jobs) = LeadsBackTo R first first jobs

-- no list of jobs is a cycle of the relation
abbrev pub HasNoCycle : (ℕ → ℕ → Type 0) → Type 0
HasNoCycle R = (jobs : List ℕ) → ¬ IsCycleOf R jobs

-- none of the jobs is smaller than the first
abbrev pub BeginsWithSmallest : List ℕ → Type 0
BeginsWithSmallest [] = Unit {0}
BeginsWithSmallest (first ∷ jobs) = All (λ job. first ≤ job) jobs

-- one of the pairs leads from `job` to `next`
abbrev pub IsAmong : List (ℕ × ℕ) → ℕ → ℕ → Type 0
IsAmong pairs job next = Contains pairs (job, next)

-- each pair is of jobs below a number
abbrev pub AreBelow : ℕ → List (ℕ × ℕ) → Type 0
AreBelow jobs pairs = All (λ (from, to). (from < jobs) × (to < jobs)) pairs
