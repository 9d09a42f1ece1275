-- A job has few edges, and its edge at a place is its own.
use Rattle.std.proofs.Common.{ℕ, ◌≤◌, Bool, true, false, ◌||◌, ◌==◌, List, [], ◌∷◌, cond, filter, length, arith}
use Rattle.std.specs.List.{range_with_len}
use Rattle.std.proofs.lemmas.List.FromFn.{length-range_with_len}
use Rattle.lab_plan.specs.LabPlan.{LabPlan, edges, ends, edges_of}

shorter : {X : Type 0} (b : Bool) (x : X) (xs ys : List X) → length xs ≤ length ys → length (cond b (x ∷ xs) xs) ≤ length (x ∷ ys)
shorter true x xs ys h = omega (arith, h)
shorter false x xs ys h = omega (arith, h)

filter_short : (p : ℕ → Bool) (xs : List ℕ) → length (filter p xs) ≤ length xs
filter_short p [] = omega arith
filter_short p (x ∷ xs) = shorter (p x) x (filter p xs) xs (filter_short p xs)

pub few_own : (plan : LabPlan) (j : ℕ) → length (edges_of plan j) ≤ length (edges plan)
few_own plan j =
    let n = length-range_with_len 0 (length (edges plan)) in
    let h = filter_short (λ e. ((ends plan e).0 == j) || ((ends plan e).1 == j)) (range_with_len 0 (length (edges plan))) in
    omega (arith, n, h)
