-- Sets of bottles, bit by bit: the lemmas on sets that crates above take.
use Rattle.std.proofs.Common.{◌≡◌, ◌↔◌, ◌⊎◌, ◌-◌, ◌==◌, ℕ, zero, suc, min, length, slice_index_or, replicate, if◌then◌else◌, ◌+◌, ◌%◌, ◌^◌, ◌<◌, bit_and, bit_xor, arith, refl, inl, inr, sym, ap, ◌∙◌}
use Rattle.std.specs.Int.{bit_at}
use Rattle.std.proofs.lemmas.Bool.{cases_lt, cases_eq}
use Rattle.std.proofs.lemmas.Nat.{xor_lt, and_le_l, pow_pos}
use Rattle.std.proofs.Math.Pow.{ones_lt, pow-lt}
use Rattle.std.specs.Int.Bits.{xor_assoc, xor_self, xor_zero_l}
use Rattle.std.proofs.lemmas.Nat.Bits.{bit_at_above, bit_at_and, bit_at_xor, bit_at-lt, bit_at-zero, bit_at_ones, bit_at-pow_other, same_from_bits, same_from_bits_below}
use Rattle.lab_plan.specs.LabPlan.{LabPlan, bottles}
use Rattle.lab_plan.proofs.Bits.{bit_cases}
use Rattle.legal_steps.specs.declared.end.End.{End}
use Rattle.legal_steps.specs.declared.end.End.TheVariants.{Lower, Higher}
use Rattle.legal_steps.specs.declared.edge_state.EdgeState.{EdgeState}
use Rattle.legal_steps.specs.State.{Has, IsOfEdge, opposite, without, bottle_end, bottles_at}
use Rattle.legal_steps.specs.Legal.{IsBottleSet}

-- ---- members

-- the empty set has no member, and a set without members is empty
pub has_none : (k : ℕ) → ¬ Has 0 k
unfolding Has
has_none k h = let z = bit_at-zero k in absurd (omega (arith, z, h))

-- the members of a set below 2 ^ n are below n
pub member_below : (set n k : ℕ) → set < 2 ^ n → Has set k → k < n
unfolding Has
member_below set n k below member = elim (cases_lt k n) [ inl h ↦ h | inr h ↦ absurd (omega (arith, bit_at_above set n k below h, member)) ]

pub empty_set : (n set : ℕ) → set < 2 ^ n → ((k : ℕ) → k < n → ¬ Has set k) → set ≡ 0
unfolding Has
empty_set n set below none = same_from_bits_below n set 0 below (pow_pos n) (λ k l. elim (bit_cases set k) [
  | inl b0 ↦ b0 ∙ sym (bit_at-zero k)
  | inr b1 ↦ absurd (none k l b1)
])

pub has_and : (a b k : ℕ) → Has (bit_and a b) k ↔ (Has a k × Has b k)
unfolding Has
has_and a b k = let e = bit_at_and a b k in let la = bit_at-lt a k in let lb = bit_at-lt b k in
    (λ h. (omega (arith, e, h, la, lb), omega (arith, e, h, la, lb)), λ q. let p = q.0 in let r = q.1 in omega (arith, e, p, r))

pub has_without : (a b k : ℕ) → Has (without a b) k ↔ (Has a k × ¬ Has b k)
unfolding Has
has_without a b k =
    let e : bit_at (without a b) k ≡ (bit_at a k + min (bit_at a k) (bit_at b k)) % 2 =
    bit_at_xor a (bit_and a b) k ∙ ap (λ z. (bit_at a k + z) % 2) (bit_at_and a b k) in
    elim (bit_cases a k) [
      | inl a0 ↦ elim (bit_cases b k) [
        | inl b0 ↦ let z : bit_at (without a b) k ≡ 0 = e ∙ (λ i. (a0 i + min (a0 i) (b0 i)) % 2) in
            (λ h. absurd (omega (arith, h, z)), λ q. let p = q.0 in absurd (omega (arith, p, a0)))
        | inr b1 ↦ let z : bit_at (without a b) k ≡ 0 = e ∙ (λ i. (a0 i + min (a0 i) (b1 i)) % 2) in
            (λ h. absurd (omega (arith, h, z)), λ q. let p = q.0 in absurd (omega (arith, p, a0)))
      ]
      | inr a1 ↦ elim (bit_cases b k) [
        | inl b0 ↦ let z : bit_at (without a b) k ≡ 1 = e ∙ (λ i. (a1 i + min (a1 i) (b0 i)) % 2) in (λ h. (a1, λ r. absurd (omega (arith, r, b0))), λ q. z)
        | inr b1 ↦ let z : bit_at (without a b) k ≡ 0 = e ∙ (λ i. (a1 i + min (a1 i) (b1 i)) % 2) in (λ h. absurd (omega (arith, h, z)), λ q. absurd (q.1 b1))
      ]
    ]

pub without_fits : (n a b : ℕ) → a < 2 ^ n → without a b < 2 ^ n
without_fits n a b h = xor_lt n a (bit_and a b) h (omega (arith, h, and_le_l a b))

-- a set within another
pub subset : (a b : ℕ) → (bit_and a b ≡ a) ↔ ((k : ℕ) → Has a k → Has b k)
unfolding Has
subset a b = (
  λ e k h. ((has_and a b k).0 (ap (λ z. bit_at z k) e ∙ h)).1,
  λ all. same_from_bits (bit_and a b) a (λ k. elim (bit_cases a k) [
    | inl a0 ↦ let e = bit_at_and a b k in omega (arith, e, a0)
    | inr a1 ↦ let e = bit_at_and a b k in let q = all k a1 in omega (arith, e, a1, q)
  ]),
)

-- nothing is marked in a list of empty sets
pub no_marks : (n e k : ℕ) → Has (slice_index_or (replicate n 0) e 0) k → ⊥
unfolding Has
no_marks zero e k h = absurd (omega (arith, bit_at-zero k, h))
no_marks (suc n) zero k h = absurd (omega (arith, bit_at-zero k, h))
no_marks (suc n) (suc e) k h = no_marks n e k h

-- ---- the ends of bottles

-- a bottle of the set changes its end, and another stays
pub bottle_end_flips : (b set k : ℕ) → Has set k → bottle_end (bit_xor b set) k ≡ opposite (bottle_end b k)
unfolding Has bottle_end
bottle_end_flips b set k member = elim (bit_cases b k) [
  | inl h ↦ rw (bit_at_xor b set k, h, member) refl
  | inr h ↦ rw (bit_at_xor b set k, h, member) refl
]

pub bottle_end_stays : (b set k : ℕ) → (Has set k → ⊥) → bottle_end (bit_xor b set) k ≡ bottle_end b k
unfolding Has bottle_end
bottle_end_stays b set k other = elim (bit_cases set k) [
  | inr h ↦ absurd (other h)
  | inl h ↦ elim (bit_cases b k) [ inl g ↦ rw (bit_at_xor b set k, h, g) refl | inr g ↦ rw (bit_at_xor b set k, h, g) refl ]
]

end_bits : (set k : ℕ) → (bottle_end set k ≡ Higher) ↔ Has set k
unfolding Has bottle_end
end_bits set k = elim (bit_cases set k) [
  | inl no_bit ↦ let z : (if bit_at set k == 0 then Lower else Higher) ≡ Lower = ap (λ n. if n == 0 then Lower else Higher) no_bit in
      (λ h. let q : Lower ≡ Higher = sym z ∙ h in absurd (cc), λ h. absurd (omega (arith, no_bit, h)))
  | inr one ↦ (λ h. one, λ h. ap (λ n. if n == 0 then Lower else Higher) one)
]

end_none : (set k : ℕ) → (bottle_end set k ≡ Lower) ↔ (¬ Has set k)
unfolding Has bottle_end
end_none set k = elim (bit_cases set k) [
  | inl no_bit ↦ (λ h r. absurd (omega (arith, no_bit, r)), λ h. ap (λ n. if n == 0 then Lower else Higher) no_bit)
  | inr one ↦ let z : (if bit_at set k == 0 then Lower else Higher) ≡ Higher = ap (λ n. if n == 0 then Lower else Higher) one in
      (λ h. let q : Lower ≡ Higher = sym h ∙ z in absurd (cc), λ h. absurd (h one))
]

has_rest : (n set k : ℕ) → k < n → Has (bit_xor (2 ^ n - 1) set) k ↔ (¬ Has set k)
unfolding Has
has_rest n set k l = let e : bit_at (bit_xor (2 ^ n - 1) set) k ≡ (1 + bit_at set k) % 2 = bit_at_xor (2 ^ n - 1) set k
    ∙ ap (λ z. (z + bit_at set k) % 2) (bit_at_ones n k l) in
    elim (bit_cases set k) [
      | inl no_bit ↦ (λ h r. absurd (omega (arith, no_bit, r)), λ h. e ∙ ap (λ z. (1 + z) % 2) no_bit)
      | inr one ↦ let z : bit_at (bit_xor (2 ^ n - 1) set) k ≡ 0 = e ∙ ap (λ z. (1 + z) % 2) one in (λ h r. absurd (omega (arith, h, z)), λ h. absurd (h one))
    ]

-- the bottles at an end
pub at_end : (plan : LabPlan) (e : ℕ) (here : End) (x : EdgeState) (k : ℕ)
    → k < length (bottles plan e) → Has (bottles_at plan e here x) k ↔ (bottle_end x.bottles k ≡ here)
unfolding bottles_at
at_end plan e Higher x k l = let b = end_bits x.bottles k in (b.1, b.0)
at_end plan e Lower x k l = let b = end_none x.bottles k in let r = has_rest (length (bottles plan e)) x.bottles k l in (λ h. b.1 (r.0 h), λ h. r.1 (b.0 h))

pub at_end_fits : (plan : LabPlan) (e : ℕ) (here : End) (x : EdgeState) → IsOfEdge plan e x.bottles → IsOfEdge plan e (bottles_at plan e here x)
unfolding bottles_at
at_end_fits plan e Higher x h = h
at_end_fits plan e Lower x h = xor_lt (length (bottles plan e)) (2 ^ length (bottles plan e) - 1) x.bottles (ones_lt (length (bottles plan e))) h

-- ---- sets of one bottle, and sets with one

-- the set of one bottle is a set of the edge, and has no other
pub one_bottle : (plan : LabPlan) (e k : ℕ) → k < length (bottles plan e) → IsBottleSet plan e (2 ^ k)
one_bottle plan e k small = record { not_empty = λ none. omega (arith, pow_pos k, none); of_edge = pow-lt small }

pub only_one : (k i : ℕ) → Has (2 ^ k) i → i ≡ k
unfolding Has
only_one k i has = elim (cases_eq i k) [ inl same ↦ same | inr other ↦ absurd (omega (arith, has, bit_at-pow_other k i other)) ]

-- a set that changes nothing is empty
pub changes_none : (b set : ℕ) → bit_xor b set ≡ b → set ≡ 0
changes_none b set h = sym (xor_zero_l set) ∙ (ap (λ n. bit_xor n set) (sym (xor_self b)) ∙ (xor_assoc b b set ∙ (ap (bit_xor b) h ∙ xor_self b)))

-- a set below 2 ^ n has a member, or none and is empty
some_or_none : (set n : ℕ) → ((k : ℕ) × (k < n) × Has set k) ⊎ ((i : ℕ) → i < n → bit_at set i ≡ 0)
unfolding Has
some_or_none set zero = inr (λ i below. absurd (omega (arith, below)))
some_or_none set (suc n) = elim (some_or_none set n) [
  | inl w ↦ inl (w.0, omega (arith, w.1), w.2)
  | inr none ↦ elim (bit_cases set n) [
    | inr one ↦ inl (n, omega arith, one)
    | inl off ↦ inr (λ i below. elim (cases_eq i n) [ inl last ↦ ap (bit_at set) last ∙ off | inr other ↦ none i (omega (arith, below, other)) ])
  ]
]

pub some_bottle : (plan : LabPlan) (e set : ℕ) → IsBottleSet plan e set → (k : ℕ) × (k < length (bottles plan e)) × Has set k
some_bottle plan e set h = elim (some_or_none set (length (bottles plan e))) [
  | inl w ↦ w
  | inr none ↦ absurd (h.not_empty (same_from_bits_below (length (bottles plan e)) set 0 h.of_edge (pow_pos (length (bottles plan e))) (λ i below. none i below
      ∙ sym (bit_at-zero i))))
]
