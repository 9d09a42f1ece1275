-- Searches that found nothing so far, and nothing at one place more.
use Rattle.std.proofs.Common.{ℕ, ◌+◌, ◌<◌, inl, inr, sym, subst, arith}
use Rattle.std.proofs.lemmas.Bool.{cases_eq}

pub none_more : (P : ℕ → Type 0) (n : ℕ) → ((k : ℕ) → k < n → ¬ P k) → ¬ P n → (k : ℕ) → k < n + 1 → ¬ P k
none_more P n before here k below = elim (cases_eq k n) [
  | inl same ↦ subst (λ m. ¬ P m) (sym same) here
  | inr other ↦ before k (omega (arith, below, other))
]
