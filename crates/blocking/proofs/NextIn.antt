-- The first bottle of a set from a place on.
use Rattle.std.proofs.Common.{◌≡◌, ⊎_elim, ℕ, ◌+◌, ◌-◌, ◌/◌, ◌%◌, ◌^◌, ◌<◌, ◌≤◌, sym, ap, ◌∙◌, arith}
use Rattle.std.specs.Int.{bit_at, trailing_zeros, w64}
use Rattle.std.specs.Int.Count.{trailing_of_zero}
use Rattle.std.proofs.Math.Nat.{div-le_self}
use Rattle.std.proofs.lemmas.Bool.{cases_eq}
use Rattle.std.proofs.lemmas.Nat.{shr-shr}
use Rattle.std.proofs.lemmas.Nat.Bits.{bit_at-zero, bit_at-trailing_zeros}

shifted : (n i j : ℕ) → bit_at (n / 2 ^ i) j ≡ bit_at n (i + j)
shifted n i j = ap (λ x. x % 2) (shr-shr n i j)

pub rest_fits : (set from : ℕ) → set < 2 ^ 64 → set / 2 ^ from < 2 ^ 64
rest_fits set from fits = omega (arith, div-le_self set (2 ^ from))

module _ (set from : ℕ) where
  -- a bottle behind the place, by what is left of the set there
  behind : (k : ℕ) → from ≤ k → bit_at (set / 2 ^ from) (k - from) ≡ bit_at set k
  behind k low = shifted set from (k - from) ∙ ap (bit_at set) (omega arith)

  pub passed_over : set / 2 ^ from < 2 ^ 64 → (r : ℕ) → r ≡ trailing_zeros w64 (set / 2 ^ from) → (k : ℕ) → from ≤ k → k < from + r → bit_at set k ≡ 0
  passed_over fits r is k low high = ⊎_elim
      (λ none. sym (behind k low) ∙ ap (λ n. bit_at n (k - from)) none ∙ bit_at-zero (k - from))
      (λ some.
      let first = bit_at-trailing_zeros w64 (set / 2 ^ from) (omega (arith, some)) fits in
      sym (behind k low) ∙ first.2 (k - from) (omega (arith, is, low, high)))
      (cases_eq (set / 2 ^ from) 0)

  pub found_there : set / 2 ^ from < 2 ^ 64 → (r : ℕ) → r ≡ trailing_zeros w64 (set / 2 ^ from) → r < 64 → bit_at set (from + r) ≡ 1
  found_there fits r is less = ⊎_elim
      (λ none. absurd (omega (arith, less, is ∙ ap (trailing_zeros w64) none ∙ trailing_of_zero 64)))
      (λ some.
      let first = bit_at-trailing_zeros w64 (set / 2 ^ from) (omega (arith, some)) fits in
      sym (shifted set from r) ∙ ap (bit_at (set / 2 ^ from)) is ∙ first.1)
      (cases_eq (set / 2 ^ from) 0)
