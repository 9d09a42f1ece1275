-- Walks along a relation.
use Rattle.std.specs.Prelude.{ℕ, List, [], ◌∷◌}
use Rattle.std.specs.List.{Contains}
use Rattle.cycles.specs.Cycles.{LeadsBackTo}

-- each job leads to the next, and the last to `end`
abbrev pub LeadsTo : (ℕ → ℕ → Type 0) → List ℕ → ℕ → Type 0
LeadsTo R [] end = Unit {0}
LeadsTo R (job ∷ jobs) end = LeadsBackTo R end job jobs

-- a walk that comes back to one of its jobs
pub record Returns (R : ℕ → ℕ → Type 0) (jobs : List ℕ) (back_to : ℕ) : Type 0 where
  pub leads : LeadsTo R jobs back_to
  pub met : Contains jobs back_to
