-- The ends of every edge are jobs of the plan, the lower number first.
use Rattle.std.proofs.Common.{ℕ, Bool, zero, suc, ◌+◌, ◌-◌, ◌<◌, ◌≤◌, List, [], ◌∷◌, ◌++◌, length, map, filter, arith}
use Rattle.std.specs.List.{AllByRecursion, All, flat_map, range_with_len}
use Rattle.std.proofs.lemmas.List.Elements.{All-filter, All-from_recursion}
use Rattle.lab_plan.specs.LabPlan.{LabPlan, edges, ends, pairs}

-- a pair of jobs, the lower number first
abbrev pub IsPair : ℕ → ℕ × ℕ → Type 0
IsPair jobs pair = (pair.0 < pair.1) × (pair.1 < jobs)

joined : {X : Type 0} (P : X → Type 0) (xs ys : List X) → AllByRecursion P xs → AllByRecursion P ys → AllByRecursion P (xs ++ ys)
joined P [] ys h k = k
joined P (x ∷ xs) ys h k = (h.0, joined P xs ys h.1 k)

row : (low a n jobs : ℕ) → low < a → a + n ≤ jobs → AllByRecursion (IsPair jobs) (map (λ high. (low, high)) (range_with_len a n))
row low a zero jobs l b = tt
row low a (suc n) jobs l b = ((l, omega arith), row low (a + 1) n jobs (omega arith) (omega arith))

rows : (a n jobs : ℕ) → a + n ≤ jobs
    → AllByRecursion (IsPair jobs) (flat_map (λ low. map (λ high. (low, high)) (range_with_len (low + 1) (jobs - (low + 1)))) (range_with_len a n))
rows a zero jobs b = tt
rows a (suc n) jobs b = joined (IsPair jobs) _ _ (row a (a + 1) (jobs - (a + 1)) jobs (omega arith) (omega arith)) (rows (a + 1) n jobs (omega arith))

pub rows_are_pairs : (p : ℕ × ℕ → Bool) (jobs : ℕ) → All (IsPair jobs) (filter p (pairs jobs))
rows_are_pairs p jobs = let P : ℕ × ℕ → Type 0 = IsPair jobs in All-filter p P (pairs jobs) (All-from_recursion P _ (rows 0 jobs jobs (omega arith)))

pub edges_are_pairs : (plan : LabPlan) → All (IsPair (length plan.jobs)) (edges plan)
unfolding edges
edges_are_pairs plan =
    let P : ℕ × ℕ → Type 0 = IsPair (length plan.jobs) in
    All-filter _ P (pairs (length plan.jobs)) (All-from_recursion P _ (rows 0 (length plan.jobs) (length plan.jobs) (omega arith)))

pub ends_are_pair : (plan : LabPlan) (e : ℕ) → e < length (edges plan) → IsPair (length plan.jobs) (ends plan e)
ends_are_pair plan e h = edges_are_pairs plan e (0, 0) h
