-- Sets of instruments by their bits.
use Rattle.std.proofs.Common.{◌≡◌, ◌⊎◌, ℕ, ◌*◌, ◌/◌, ◌%◌, ◌^◌, ◌<◌, ◌≤◌, false, ◌||◌, nat_eq, bit_and, bit_or, arith, refl, sym, ap, inl, inr, subst}
use Rattle.std.proofs.Math.Bool.{or-false, or-true}
use Rattle.std.proofs.lemmas.Bool.{cases_eq, eq-eqb, ne_eqb}
use Rattle.std.specs.Int.{bit_at, w64}
use Rattle.std.proofs.lemmas.Nat.Bits.{bit_at-lt, bit_at-zero, bit_at_set_same, bit_at_set_other, bit_at_above, shr_and_one}
use Rattle.lab_plan.specs.InstrumentSets.{holds}

pub bit_cases : (n k : ℕ) → (bit_at n k ≡ 0) ⊎ (bit_at n k ≡ 1)
bit_cases n k = let low = bit_at-lt n k in elim (cases_eq (bit_at n k) 0) [ inl h ↦ inl h | inr h ↦ inr (omega arith) ]

-- the empty set
pub holds_none : (i : ℕ) → holds 0 i ≡ false
unfolding holds
holds_none i = rw (bit_at-zero i) refl

-- the test of a bit
pub holds_is : (set k : ℕ) → nat_eq (bit_and (set / 2 ^ k) 1) 1 ≡ holds set k
unfolding holds
holds_is set k = ap (λ b. nat_eq b 1) (shr_and_one set k)

pub holds_with : (set k i : ℕ) → k < 64 → holds (bit_or set (1 * 2 ^ k % 2 ^ 64)) i ≡ (holds set i || nat_eq k i)
unfolding holds
holds_with set k i within = elim (cases_eq k i) [
  | inl h ↦ subst (λ n. nat_eq (bit_at (bit_or set (1 * 2 ^ k % 2 ^ 64)) n) 1 ≡ (nat_eq (bit_at set n) 1 || nat_eq k n)) h
      (rw (bit_at_set_same w64 set k within, eq-eqb k k refl) (sym (or-true (nat_eq (bit_at set k) 1))))
  | inr h ↦ rw (bit_at_set_other w64 set k within i (λ e. h (sym e)), ne_eqb k i h) (sym (or-false (nat_eq (bit_at set i) 1)))
]

-- a set has no instrument past its bits
pub holds_past : (set i : ℕ) → set < 2 ^ 64 → 64 ≤ i → holds set i ≡ false
unfolding holds
holds_past set i few past = ap (λ b. nat_eq b 1) (bit_at_above set 64 i few past)
