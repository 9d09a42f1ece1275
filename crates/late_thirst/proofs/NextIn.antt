-- The first job of a set from a place on.
use Rattle.std.proofs.Common.{◌≡◌, ⊎_elim, ℕ, ◌+◌, ◌-◌, ◌/◌, ◌%◌, ◌^◌, ◌<◌, ◌≤◌, true, false, ◌==◌, sym, ap, ◌∙◌, arith}
use Rattle.std.specs.Int.{bit_at, trailing_zeros, w64}
use Rattle.std.specs.Int.Count.{trailing_of_zero}
use Rattle.std.proofs.Math.Nat.{div-le_self}
use Rattle.std.proofs.lemmas.Bool.{cases_eq, eq-eqb}
use Rattle.std.proofs.lemmas.Nat.{shr-shr}
use Rattle.std.proofs.lemmas.Nat.Bits.{bit_at-zero, bit_at-trailing_zeros}
use Rattle.lab_plan.specs.InstrumentSets.{holds}

shifted : (n i j : ℕ) → bit_at (n / 2 ^ i) j ≡ bit_at n (i + j)
shifted n i j = ap (λ x. x % 2) (shr-shr n i j)

pub rest_fits : (set from : ℕ) → set < 2 ^ 64 → set / 2 ^ from < 2 ^ 64
rest_fits set from fits = omega (arith, div-le_self set (2 ^ from))

pub one_holds : (set k : ℕ) → bit_at set k ≡ 1 → holds set k ≡ true
unfolding holds
one_holds set k h = eq-eqb (bit_at set k) 1 h

pub zero_lacks : (set k : ℕ) → bit_at set k ≡ 0 → holds set k ≡ false
unfolding holds
zero_lacks set k h = ap (λ b. b == 1) h

module _ (set from : ℕ) where
  -- a job behind the place, by what is left of the set there
  behind : (k : ℕ) → from ≤ k → bit_at (set / 2 ^ from) (k - from) ≡ bit_at set k
  behind k low = shifted set from (k - from) ∙ ap (bit_at set) (omega arith)

  pub passed_over : set / 2 ^ from < 2 ^ 64 → (r : ℕ) → r ≡ trailing_zeros w64 (set / 2 ^ from) → (k : ℕ) → from ≤ k → k < from + r → holds set k ≡ false
  passed_over fits r is k low high = zero_lacks set k (⊎_elim
      (λ none. sym (behind k low) ∙ ap (λ n. bit_at n (k - from)) none ∙ bit_at-zero (k - from))
      (λ some.
      let first = bit_at-trailing_zeros w64 (set / 2 ^ from) (omega (arith, some)) fits in
      sym (behind k low) ∙ first.2 (k - from) (omega (arith, is, low, high)))
      (cases_eq (set / 2 ^ from) 0))

  pub found_there : set / 2 ^ from < 2 ^ 64 → (r : ℕ) → r ≡ trailing_zeros w64 (set / 2 ^ from) → r < 64 → holds set (from + r) ≡ true
  found_there fits r is less = one_holds set (from + r) (⊎_elim
      (λ none. absurd (omega (arith, less, is ∙ ap (trailing_zeros w64) none ∙ trailing_of_zero 64)))
      (λ some.
      let first = bit_at-trailing_zeros w64 (set / 2 ^ from) (omega (arith, some)) fits in
      sym (shifted set from r) ∙ ap (bit_at (set / 2 ^ from)) is ∙ first.1)
      (cases_eq (set / 2 ^ from) 0))
