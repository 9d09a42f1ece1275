-- What is kept from those behind, and why one waits.
use Rattle.std.proofs.Common.{◌≡◌, ◌≢◌, ◌⊎◌, ℕ, ◌+◌, ◌<◌, Bool, true, false, ◌||◌, ◌&&◌, not, nat_eq, List, length, Option, Some, None, refl, sym, ap, ◌∙◌, subst, inl, inr, arith}
use Rattle.std.specs.Int.Bits.{bit_and, bit_or}
use Rattle.std.proofs.lemmas.Bool.{cases_eq, cases_Bool, eq-eqb, ne_eqb, false≢true}
use Rattle.std.proofs.lemmas.Nat.{and_or_self, and_or_apart, and_assoc, and_comm}
use Rattle.std.specs.Int.Bits.{and_zero_l}
use Rattle.bay_line.specs.declared.wish.Wish.{Wish}
use Rattle.bay_line.specs.Wishes.{wish_at, common, is_kept}
use Rattle.bay_line.specs.Turns.{HasReason, AreKept, IsKeptBelow, KeptHaveReasons, IsFirst, IsFirstOther}

-- ---- sets

none_common : (a b : ℕ) → bit_and a b ≡ 0 → common a b ≡ false
none_common a b h = ap not (eq-eqb (bit_and a b) 0 h)

some_common : (a b : ℕ) → bit_and a b ≢ 0 → common a b ≡ true
some_common a b h = ap not (ne_eqb (bit_and a b) 0 h)

with_false : (b : Bool) → (b || false) ≡ b
with_false true = refl
with_false false = refl

pub with_true : (b : Bool) → (b || true) ≡ true
with_true true = refl
with_true false = refl

-- whoever shares nothing with both shares nothing with the second
second_none : (x a b : ℕ) → bit_and x (bit_or a b) ≡ 0 → bit_and x b ≡ 0
second_none x a b h =
    let both : ℕ = bit_or a b in
    let one : bit_and b x ≡ bit_and (bit_and both b) x = ap (λ n. bit_and n x) (sym (and_or_self b a)) in
    let two : bit_and (bit_and both b) x ≡ bit_and both (bit_and b x) = and_assoc x both b in
    let three : bit_and both (bit_and b x) ≡ bit_and both (bit_and x b) = ap (bit_and both) (and_comm b x) in
    let four : bit_and both (bit_and x b) ≡ bit_and (bit_and both x) b = sym (and_assoc b both x) in
    let none : bit_and both x ≡ 0 = and_comm both x ∙ h in
    and_comm x b ∙ (one ∙ (two ∙ (three ∙ (four ∙ (ap (λ n. bit_and n b) none ∙ and_zero_l b)))))

pub common_both : (x a b : ℕ) → common x (bit_or a b) ≡ (common x a || common x b)
common_both x a b = elim (cases_eq (bit_and x b) 0) [
  | inl none ↦
      let same : bit_and x (bit_or a b) ≡ bit_and x a = and_comm x (bit_or a b) ∙ (and_or_apart x a b (and_comm b x ∙ none) ∙ and_comm a x) in
      ap (λ n. not (nat_eq n 0)) same ∙ sym (ap (λ c. common x a || c) (none_common x b none) ∙ with_false (common x a))
  | inr some ↦
      some_common x (bit_or a b) (λ h. some (second_none x a b h)) ∙ sym (ap (λ c. common x a || c) (some_common x b some) ∙ with_true (common x a))
]

-- ---- wishes looked at one after another

or_false_first : (a b : Bool) → (a || b) ≡ false → a ≡ false
or_false_first false b h = refl
or_false_first true b h = h

or_false_second : (a b : Bool) → (a || b) ≡ false → b ≡ false
or_false_second false b h = h
or_false_second true b h = absurd (false≢true (sym h))

pub or_true_cases : (a b : Bool) → (a || b) ≡ true → (a ≡ true) ⊎ (b ≡ true)
or_true_cases true b h = inl refl
or_true_cases false b h = inr h

pub and_true_first : (a b : Bool) → (a && b) ≡ true → a ≡ true
and_true_first true b h = refl
and_true_first false b h = h

pub and_true_second : (a b : Bool) → (a && b) ≡ true → b ≡ true
and_true_second true b h = h
and_true_second false b h = absurd (false≢true h)

pub and_is : (a b : Bool) → a ≡ true → b ≡ true → (a && b) ≡ true
and_is a b x y = ap (λ c. c && b) x ∙ y

pub below_more : (i n : ℕ) → i < n + 1 → (i < n) ⊎ (i ≡ n)
below_more i n h = elim (cases_eq i n) [ inl same ↦ inr same | inr other ↦ inl (omega (arith, h, other)) ]

-- those for which their instruments are kept, looked at one after another
pub record KeptSoFar (most in_use free : ℕ) (wishes : List Wish) (n kept : ℕ) : Type 0 where
  pub are : AreKept in_use wishes (IsKeptBelow most free wishes n) kept
  pub reasons : KeptHaveReasons most in_use free wishes n

pub none_looked_at : (most in_use free : ℕ) (wishes : List Wish) → KeptSoFar most in_use free wishes 0 in_use
none_looked_at most in_use free wishes = record {
  are = record { unused = λ x h. h; apart = λ x h i p. absurd (omega (arith, p.0)); why = λ x h. inl h };
  reasons = λ i p. absurd (omega (arith, p.0));
}

pub one_looked_at : (most in_use free : ℕ) (wishes : List Wish) (n kept more : ℕ) → KeptSoFar most in_use free wishes n kept
    → ((x : ℕ) → common x more ≡ (common x kept || is_kept most free (wish_at wishes n) && common x (wish_at wishes n).needs))
    → (is_kept most free (wish_at wishes n) ≡ true → HasReason most in_use free wishes n) → KeptSoFar most in_use free wishes (n + 1) more
one_looked_at most in_use free wishes n kept more x says not_in =
    let w = wish_at wishes n in let k = is_kept most free w in
    record {
      are = record {
        unused = λ y h. x.are.unused y (or_false_first (common y kept) (k && common y w.needs) (sym (says y) ∙ h));
        apart = λ y h i p. elim (below_more i n p.0) [
          | inl less ↦ x.are.apart y (or_false_first (common y kept) (k && common y w.needs) (sym (says y) ∙ h)) i (less, p.1)
          | inr same ↦
              let it : is_kept most free (wish_at wishes n) ≡ true = subst (λ j. is_kept most free (wish_at wishes j) ≡ true) same p.1 in
              let none : (k && common y w.needs) ≡ false = or_false_second (common y kept) (k && common y w.needs) (sym (says y) ∙ h) in
              subst (λ j. common y (wish_at wishes j).needs ≡ false) (sym same) (ap (λ b. b && common y w.needs) (sym it) ∙ none)
        ];
        why = λ y h. elim (or_true_cases (common y kept) (k && common y w.needs) (sym (says y) ∙ h)) [
          | inl before ↦ elim (x.are.why y before) [
            | inl used ↦ inl used
            | inr one ↦ inr (one.0, (omega (arith, one.1.0), one.1.1), one.2)
          ]
          | inr now ↦ inr (n, (omega arith, and_true_first k (common y w.needs) now), and_true_second k (common y w.needs) now)
        ];
      };
      reasons = λ i p. elim (below_more i n p.0) [
        | inl less ↦ x.reasons i (less, p.1)
        | inr same ↦
            subst (HasReason most in_use free wishes) (sym same) (not_in (subst (λ j. is_kept most free (wish_at wishes j) ≡ true) same p.1))
      ];
    }

-- ---- the first of all

pub first_is_other : (most in_use free : ℕ) (wishes : List Wish) (o : Option ℕ) → KeptHaveReasons most in_use free wishes (length wishes)
    → IsFirstOther most in_use free wishes o → IsFirst most in_use free wishes o
first_is_other most in_use free wishes (Some k) x y = (
  y.0,
  y.2,
  λ i before. elim (cases_Bool (is_kept most free (wish_at wishes i))) [
    | inl it ↦ x i (before.0, it)
    | inr isnt ↦ elim before.1 [
      | inl b ↦ y.3 i b.0 isnt
      | inr b ↦ absurd (false≢true (sym isnt ∙ b.0))
    ]
  ],
)
first_is_other most in_use free wishes None x y = λ i inside. elim (cases_Bool (is_kept most free (wish_at wishes i))) [
  | inl it ↦ x i (inside, it)
  | inr isnt ↦ y i inside isnt
]

pub or_false_is : (a k b : Bool) → k ≡ false → a ≡ (a || k && b)
or_false_is a k b h = sym (ap (λ c. a || c && b) h ∙ with_false a)

pub not_zero : (n : ℕ) → not (nat_eq n 0) ≡ true → n ≢ 0
not_zero n h z = false≢true (sym (ap not (eq-eqb n 0 z)) ∙ h)
