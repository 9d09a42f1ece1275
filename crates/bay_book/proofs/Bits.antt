-- Sets of instruments, and what is in use.
use Rattle.std.proofs.Common.{◌≡◌, ◌≢◌, ◌⊎◌, ℕ, ◌+◌, ◌<◌, ◌^◌, Bool, true, false, ◌||◌, ◌&&◌, not, nat_eq, List, length, refl, sym, ap, ◌∙◌, subst, inl, inr, arith}
use Rattle.std.specs.Int.{IsBitSet}
use Rattle.std.specs.Int.Bits.{bit_and, bit_or, and_zero_l}
use Rattle.std.proofs.lemmas.Bool.{cases_eq, cases_Bool, eq-eqb, ne_eqb, false≢true}
use Rattle.std.proofs.lemmas.Nat.{and_or_self, and_or_apart, and_assoc, and_comm}
use Rattle.bay_book.specs.declared.ask.Ask.{Ask}
use Rattle.bay_book.specs.Asks.{ask_at, is_holding}
use Rattle.bay_book.specs.Moments.{common}
use Rattle.bay_book.specs.Finding.{IsInUse}

none_common : (a b : ℕ) → bit_and a b ≡ 0 → common a b ≡ false
none_common a b h = ap not (eq-eqb (bit_and a b) 0 h)

some_common : (a b : ℕ) → bit_and a b ≢ 0 → common a b ≡ true
some_common a b h = ap not (ne_eqb (bit_and a b) 0 h)

pub none_is : (a b : ℕ) → common a b ≡ false → bit_and a b ≡ 0
none_is a b h = elim (cases_eq (bit_and a b) 0) [ inl is ↦ is | inr some ↦ absurd (false≢true (sym h ∙ some_common a b some)) ]

with_false : (b : Bool) → (b || false) ≡ b
with_false true = refl
with_false false = refl

with_true : (b : Bool) → (b || true) ≡ true
with_true true = refl
with_true false = refl

-- whoever shares nothing with both shares nothing with the second
second_none : (x a b : ℕ) → bit_and x (bit_or a b) ≡ 0 → bit_and x b ≡ 0
second_none x a b h =
    let both : ℕ = bit_or a b in
    let one : bit_and b x ≡ bit_and (bit_and both b) x = ap (λ n. bit_and n x) (sym (and_or_self b a)) in
    let two : bit_and (bit_and both b) x ≡ bit_and both (bit_and b x) = and_assoc x both b in
    let three : bit_and both (bit_and b x) ≡ bit_and both (bit_and x b) = ap (bit_and both) (and_comm b x) in
    let four : bit_and both (bit_and x b) ≡ bit_and (bit_and both x) b = sym (and_assoc b both x) in
    let none : bit_and both x ≡ 0 = and_comm both x ∙ h in
    and_comm x b ∙ (one ∙ (two ∙ (three ∙ (four ∙ (ap (λ n. bit_and n b) none ∙ and_zero_l b)))))

pub common_both : (x a b : ℕ) → common x (bit_or a b) ≡ (common x a || common x b)
common_both x a b = elim (cases_eq (bit_and x b) 0) [
  | inl none ↦
      let same : bit_and x (bit_or a b) ≡ bit_and x a = and_comm x (bit_or a b) ∙ (and_or_apart x a b (and_comm b x ∙ none) ∙ and_comm a x) in
      ap (λ n. not (nat_eq n 0)) same ∙ sym (ap (λ c. common x a || c) (none_common x b none) ∙ with_false (common x a))
  | inr some ↦
      some_common x (bit_or a b) (λ h. some (second_none x a b h)) ∙ sym (ap (λ c. common x a || c) (some_common x b some) ∙ with_true (common x a))
]

pub or_false_is : (a k b : Bool) → k ≡ false → a ≡ (a || k && b)
or_false_is a k b h = sym (ap (λ c. a || c && b) h ∙ with_false a)

pub or_false_first : (a b : Bool) → (a || b) ≡ false → a ≡ false
or_false_first false b h = refl
or_false_first true b h = h

pub or_false_second : (a b : Bool) → (a || b) ≡ false → b ≡ false
or_false_second false b h = h
or_false_second true b h = absurd (false≢true (sym h))

pub or_true_cases : (a b : Bool) → (a || b) ≡ true → (a ≡ true) ⊎ (b ≡ true)
or_true_cases true b h = inl refl
or_true_cases false b h = inr h

and_true_first : (a b : Bool) → (a && b) ≡ true → a ≡ true
and_true_first true b h = refl
and_true_first false b h = h

and_true_second : (a b : Bool) → (a && b) ≡ true → b ≡ true
and_true_second true b h = h
and_true_second false b h = absurd (false≢true h)

pub below_cases : (i n : ℕ) → i < n + 1 → (i < n) ⊎ (i ≡ n)
below_cases i n h = elim (cases_eq i n) [ inl same ↦ inr same | inr other ↦ inl (omega (arith, h, other)) ]

-- ---- what the first n that hold have

pub record HoldsBelow (asks : List Ask) (n j : ℕ) (P : ℕ → Type 0) : Type 0 where
  pub below : j < n
  pub holds : is_holding (ask_at asks j).stage ≡ true
  pub has : P (ask_at asks j).needs

pub record InUseTo (asks : List Ask) (n set : ℕ) : Type 0 where
  pub apart : (x : ℕ) → common x set ≡ false → (j : ℕ) → j < n → is_holding (ask_at asks j).stage ≡ true → common x (ask_at asks j).needs ≡ false
  pub why : (x : ℕ) → common x set ≡ true → (j : ℕ) × HoldsBelow asks n j (λ needs. common x needs ≡ true)

nothing_common : (x : ℕ) → common x 0 ≡ false
nothing_common x = none_common x 0 (and_comm x 0 ∙ and_zero_l x)

pub none_in_use : (asks : List Ask) → InUseTo asks 0 0
none_in_use asks = record {
  apart = λ x none j below holds. absurd (omega (arith, below));
  why = λ x some. absurd (false≢true (sym (nothing_common x) ∙ some));
}

pub one_more_in_use : (asks : List Ask) (n set more : ℕ)
    → ((x : ℕ) → common x more ≡ (common x set || is_holding (ask_at asks n).stage && common x (ask_at asks n).needs)) → InUseTo asks n set
    → InUseTo asks (n + 1) more
one_more_in_use asks n set more says u =
    let a : Ask = ask_at asks n in
    record {
      apart = λ x none j below holds. elim (below_cases j n below) [
        | inl less ↦ u.apart x (or_false_first (common x set) (is_holding a.stage && common x a.needs) (sym (says x) ∙ none)) j less holds
        | inr same ↦
            let it : is_holding a.stage ≡ true = subst (λ k. is_holding (ask_at asks k).stage ≡ true) same holds in
            let no : (is_holding a.stage && common x a.needs) ≡ false = or_false_second (common x set) (is_holding a.stage && common x a.needs) (sym (says x) ∙ none) in
            subst (λ k. common x (ask_at asks k).needs ≡ false) (sym same) (sym (ap (λ b. b && common x a.needs) it) ∙ no)
      ];
      why = λ x some. elim (or_true_cases (common x set) (is_holding a.stage && common x a.needs) (sym (says x) ∙ some)) [
        | inl before ↦
            let w = u.why x before in (w.0, record { below = omega (arith, w.1.below); holds = w.1.holds; has = w.1.has })
        | inr now ↦ (
          n,
          record {
            below = omega arith;
            holds = and_true_first (is_holding a.stage) (common x a.needs) now;
            has = and_true_second (is_holding a.stage) (common x a.needs) now;
          },
        )
      ];
    }

-- ---- bits

bit_common : (n i : ℕ) → IsBitSet n i → common (2 ^ i) n ≡ true
bit_common n i h = some_common (2 ^ i) n (λ z. h (and_comm n (2 ^ i) ∙ z))

common_bit : (n i : ℕ) → common (2 ^ i) n ≡ true → IsBitSet n i
common_bit n i h z = false≢true (sym (none_common (2 ^ i) n (and_comm (2 ^ i) n ∙ z)) ∙ h)

pub all_in_use : (asks : List Ask) (n set : ℕ) → n ≡ length asks → InUseTo asks n set → IsInUse asks set
all_in_use asks n set all u = record {
  bits = λ i. (
    λ h. let w = u.why (2 ^ i) (bit_common set i h) in
        (w.0, record { inside = omega (arith, w.1.below, all); holds = w.1.holds; has = common_bit (ask_at asks w.0).needs i w.1.has }),
    λ h. elim (cases_Bool (common (2 ^ i) set)) [
      | inl some ↦ common_bit set i some
      | inr none ↦ absurd (false≢true (sym (u.apart (2 ^ i) none h.0 (omega (arith, h.1.inside, all)) h.1.holds) ∙ bit_common (ask_at asks h.0).needs i h.1.has))
    ],
  );
  apart = λ x none j inside holds. u.apart x none j (omega (arith, inside, all)) holds;
  why = λ x some.
      let w = u.why x some in (w.0, record { inside = omega (arith, w.1.below, all); holds = w.1.holds; has = w.1.has });
}
