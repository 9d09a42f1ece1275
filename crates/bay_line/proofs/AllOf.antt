-- What the wishes have, one more at a time.
use Rattle.std.proofs.Common.{◌≡◌, ℕ, ◌+◌, Bool, true, ◌||◌, List, ap, ◌∙◌, sym, subst, inl, inr, arith, bit_or}
use Rattle.std.specs.Int.{bit_at}
use Rattle.std.proofs.lemmas.Bool.{cases_eq}
use Rattle.std.proofs.lemmas.Nat.Bits.{bit_at_or, bit_at-lt}
use Rattle.bay_line.specs.declared.wish.Wish.{Wish}
use Rattle.bay_line.specs.Wishes.{wish_at, common}
use Rattle.bay_line.specs.Wanted.{IsAllOf}
use Rattle.bay_line.proofs.Kept.{below_more, common_both, or_true_cases, with_true}

first_is : (a b : Bool) → a ≡ true → (a || b) ≡ true
first_is a b h = ap (λ c. c || b) h

second_is : (a b : Bool) → b ≡ true → (a || b) ≡ true
second_is a b h = ap (λ c. a || c) h ∙ with_true a

pub one_more : (what : Wish → ℕ) (wishes : List Wish) (n all : ℕ) → IsAllOf what wishes n all → IsAllOf what wishes (n + 1) (bit_or all (what (wish_at wishes n)))
one_more what wishes n all x =
    let its : ℕ = what (wish_at wishes n) in
    record {
      has = λ k i below h.
          let both = bit_at_or all its i in let a = bit_at-lt all i in let b = bit_at-lt its i in
          elim (below_more k n below) [
            | inl less ↦ let one = x.has k i less h in omega (arith, both, a, b, one)
            | inr same ↦ let one : bit_at its i ≡ 1 = subst (λ j. bit_at (what (wish_at wishes j)) i ≡ 1) same h in omega (arith, both, a, b, one)
          ];
      whose = λ i h.
          let both = bit_at_or all its i in let a = bit_at-lt all i in
          elim (cases_eq (bit_at all i) 1) [
            | inl is ↦ let one = x.whose i is in (one.0, omega (arith, one.1), one.2)
            | inr isnt ↦ (n, omega arith, omega (arith, both, a, isnt, h))
          ];
      shares = λ y k below h.
          common_both y all its
          ∙ elim (below_more k n below) [
            | inl less ↦ first_is (common y all) (common y its) (x.shares y k less h)
            | inr same ↦ second_is (common y all) (common y its) (subst (λ j. common y (what (wish_at wishes j)) ≡ true) same h)
          ];
      with = λ y h.
          elim (or_true_cases (common y all) (common y its) (sym (common_both y all its) ∙ h)) [
            | inl before ↦ let one = x.with y before in (one.0, omega (arith, one.1), one.2)
            | inr now ↦ (n, omega arith, now)
          ];
    }
