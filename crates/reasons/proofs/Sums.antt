-- Sums over the numbers below one.
use Rattle.std.proofs.Common.{ℕ, zero, suc, ◌+◌, ◌*◌, ◌<◌, ◌≤◌, arith, subst, inl, inr}
use Rattle.std.proofs.lemmas.Bool.{cases_eq}
use Rattle.reasons.specs.Deeds.{sum_below}

pub sum_less : (f h : ℕ → ℕ) (n : ℕ) → ((i : ℕ) → i < n → f i ≤ h i) → sum_below f n ≤ sum_below h n
sum_less f h zero each = omega arith
sum_less f h (suc n) each = omega (arith, sum_less f h n (λ i inside. each i (omega (arith, inside))), each n (omega arith))

pub sum_lower : (f h : ℕ → ℕ) (n i : ℕ) → i < n → ((k : ℕ) → k < n → f k ≤ h k) → f i + 1 ≤ h i → sum_below f n + 1 ≤ sum_below h n
sum_lower f h zero i inside each less = absurd (omega (arith, inside))
sum_lower f h (suc n) i inside each less = elim (cases_eq i n) [
  | inl same ↦ omega (arith, sum_less f h n (λ k small. each k (omega (arith, small))), subst (λ k. f k + 1 ≤ h k) same less)
  | inr other ↦ omega (arith, sum_lower f h n i (omega (arith, inside, other)) (λ k small. each k (omega (arith, small))) less, each n (omega arith))
]

pub sum_most : (f : ℕ → ℕ) (most n : ℕ) → ((i : ℕ) → i < n → f i ≤ most) → sum_below f n ≤ most * n
sum_most f most zero each = omega arith
sum_most f most (suc n) each =
    let before = sum_most f most n (λ i inside. each i (omega (arith, inside))) in
    let last = each n (omega arith) in
    grind (arith, before, last)

pub sum_nines : (f h : ℕ → ℕ) (n : ℕ) → ((i : ℕ) → i < n → f i ≤ 9 + 9 * h i) → sum_below f n ≤ 9 * n + 9 * sum_below h n
sum_nines f h zero each = omega arith
sum_nines f h (suc n) each = omega (arith, sum_nines f h n (λ i inside. each i (omega (arith, inside))), each n (omega arith))
