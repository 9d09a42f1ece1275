-- Sets of classes, and of instruments.
use Rattle.std.proofs.Common.{◌≡◌, ◌⊎◌, ◌↔◌, ℕ, ◌+◌, ◌^◌, ◌<◌, max, not, nat_eq, bit_or, bit_xor, sym, ap, ◌∙◌, subst, inl, inr, arith}
use Rattle.std.specs.Int.{bit_at}
use Rattle.std.specs.Int.Bits.{bit_and}
use Rattle.std.proofs.lemmas.Bool.{cases_eq}
use Rattle.std.proofs.lemmas.Nat.{and_comm}
use Rattle.std.proofs.lemmas.Nat.Bits.{bit_at_or, bit_at_xor, bit_at_and, bit_at-lt, bit_at-zero, bit_at-pow_same, bit_at-pow_other}
use Rattle.bay_book.specs.Moments.{common}

pub common_comm : (a b : ℕ) → common a b ≡ common b a
common_comm a b = ap (λ n. not (nat_eq n 0)) (and_comm a b)

-- the one class of the set
pub one_class : (class k : ℕ) → bit_at (2 ^ class) k ≡ 1 → k ≡ class
one_class class k h = elim (cases_eq k class) [
  | inl is ↦ is
  | inr other ↦ absurd (omega (arith, h, bit_at-pow_other class k other))
]

either_bit : (a b : ℕ) → max a b ≡ 1 → a < 2 → b < 2 → (a ≡ 1) ⊎ (b ≡ 1)
either_bit a b h p q = elim (cases_eq a 1) [ inl is ↦ inl is | inr other ↦ inr (omega (arith, h, p, q, other)) ]

below_more : (i n : ℕ) → i < n + 1 → (i < n) ⊎ (i ≡ n)
below_more i n h = elim (cases_eq i n) [ inl same ↦ inr same | inr other ↦ inl (omega (arith, h, other)) ]

pub none_yet : (P : ℕ → Type 0) (j : ℕ) → (bit_at 0 j ≡ 1) ↔ ((j < 0) × P j)
none_yet P j = (λ h. absurd (omega (arith, h, bit_at-zero j)), λ x. absurd (omega (arith, x.0)))

-- one more class was looked at, and is in the set
pub with_one : (P : ℕ → Type 0) (n set : ℕ) → ((j : ℕ) → (bit_at set j ≡ 1) ↔ ((j < n) × P j)) → P n
    → (j : ℕ) → (bit_at (bit_or set (2 ^ n)) j ≡ 1) ↔ ((j < n + 1) × P j)
with_one P n set before here j = (
  λ h. elim (either_bit (bit_at set j) (bit_at (2 ^ n) j) (sym (bit_at_or set (2 ^ n) j) ∙ h) (bit_at-lt set j) (bit_at-lt (2 ^ n) j)) [
    | inl was ↦ let x = (before j).0 was in (omega (arith, x.0), x.1)
    | inr now ↦ let same = one_class n j now in (omega (arith, same), subst P (sym same) here)
  ],
  λ x. elim (below_more j n x.0) [
    | inl less ↦
        let one : bit_at set j ≡ 1 = (before j).1 (less, x.1) in
        bit_at_or set (2 ^ n) j ∙ omega (arith, one, bit_at-lt (2 ^ n) j)
    | inr same ↦
        let one : bit_at (2 ^ n) j ≡ 1 = subst (λ i. bit_at (2 ^ n) i ≡ 1) (sym same) (bit_at-pow_same n) in
        bit_at_or set (2 ^ n) j ∙ omega (arith, one, bit_at-lt set j)
  ],
)

-- or isn't
pub without_one : (P : ℕ → Type 0) (n set : ℕ) → ((j : ℕ) → (bit_at set j ≡ 1) ↔ ((j < n) × P j)) → (P n → ⊥)
    → (j : ℕ) → (bit_at set j ≡ 1) ↔ ((j < n + 1) × P j)
without_one P n set before not_here j = (
  λ h. let x = (before j).0 h in (omega (arith, x.0), x.1),
  λ x. elim (below_more j n x.0) [
    | inl less ↦ (before j).1 (less, x.1)
    | inr same ↦ absurd (not_here (subst P same x.1))
  ],
)

-- what is in the first set and not in the second
pub without : (a b k : ℕ) → (bit_at (bit_xor a (bit_and a b)) k ≡ 1) ↔ ((bit_at a k ≡ 1) × (bit_at b k ≡ 1 → ⊥))
without a b k =
    let x = bit_at_xor a (bit_and a b) k in let y = bit_at_and a b k in let p = bit_at-lt a k in let q = bit_at-lt b k in (
      λ h. (omega (arith, h, x, y, p, q), λ g. absurd (omega (arith, h, x, y, p, q, g))),
      λ h. let r = h.0 in elim (cases_eq (bit_at b k) 1) [ inl is ↦ absurd (h.1 is) | inr other ↦ omega (arith, r, x, y, p, q, other) ],
    )
