-- Jobs that are left, and those that were taken out. A list says by number which are left.
use Rattle.std.specs.Prelude.{◌≡◌, ℕ, Bool, true, false, List, ◌∷◌, slice_index_or}
use Rattle.cycles.specs.Cycles.{IsAmong, IsCycleOf}

abbrev pub IsLeft : List Bool → ℕ → Type 0
IsLeft left job = slice_index_or left job false ≡ true

abbrev pub IsOut : List Bool → ℕ → Type 0
IsOut left job = slice_index_or left job false ≡ false

-- a pair leads from `job` to `next`, which is left
pub record LeadsOn (pairs : List (ℕ × ℕ)) (left : List Bool) (job next : ℕ) : Type 0 where
  pub pair : IsAmong pairs job next
  pub is_left : IsLeft left next

-- a job leads to none that is left
abbrev pub IsSink : List (ℕ × ℕ) → List Bool → ℕ → Type 0
IsSink pairs left job = (next : ℕ) → IsAmong pairs job next → IsOut left next

-- a sink that is left
pub record IsSinkLeft (pairs : List (ℕ × ℕ)) (left : List Bool) (job : ℕ) : Type 0 where
  pub is_left : IsLeft left job
  pub sink : IsSink pairs left job

-- every job that is left leads on to one that is
abbrev pub EachLeadsOn : List (ℕ × ℕ) → List Bool → Type 0
EachLeadsOn pairs left = (job : ℕ) → IsLeft left job → ¬ IsSink pairs left job

-- no cycle begins with a job that was taken out
abbrev pub NoCycleBeginsOut : List (ℕ × ℕ) → List Bool → Type 0
NoCycleBeginsOut pairs left = (job : ℕ) (jobs : List ℕ) → IsOut left job → ¬ IsCycleOf (IsAmong pairs) (job ∷ jobs)

-- from no job that is left does a pair lead
abbrev pub NoneLeadsOn : List (ℕ × ℕ) → List Bool → Type 0
NoneLeadsOn pairs left = (job next : ℕ) → IsLeft left job → ¬ IsAmong pairs job next
