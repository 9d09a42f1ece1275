-- For readers: rankings of jobs.
use Rattle.std.specs.Prelude.{ℕ, ◌<◌, List, [], ◌∷◌}
use Rattle.std.specs.List.{All, Contains}
use Rattle.cycles.specs.Cycles.{IsAmong}

-- no job stands twice, and none leads to one that stands before it
abbrev pub IsRanked : List (ℕ × ℕ) → List ℕ → Type 0
IsRanked pairs [] = Unit {0}
IsRanked pairs (job ∷ jobs) = ((later : ℕ) → Contains jobs later → ¬ IsAmong pairs later job) × ¬ Contains jobs job × IsRanked pairs jobs

-- every job below a number once, each before all to which it leads
pub record IsRanking (jobs : ℕ) (pairs : List (ℕ × ℕ)) (order : List ℕ) : Type 0 where
  pub ranked : IsRanked pairs order
  pub every : (job : ℕ) → job < jobs → Contains order job
  pub none_else : All (λ job. job < jobs) order
