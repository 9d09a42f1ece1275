-- What somebody in line lacks.
use Rattle.std.proofs.Common.{◌≡◌, ◌≢◌, ℕ, zero, suc, ◌<◌, ◌/◌, ◌%◌, true, List, length, bit_and, refl, ◌∙◌, subst, inl, inr, arith}
use Rattle.std.specs.Int.{bit_at}
use Rattle.std.proofs.lemmas.Bool.{cases_eq, eq-eqb}
use Rattle.std.proofs.lemmas.Nat.Bits.{bit_at_and, bit_at-lt, bit_at_lowest, bit_at-suc}
use Rattle.bay_line.specs.declared.wish.Wish.{Wish}
use Rattle.bay_line.specs.Wishes.{wish_at, common}
use Rattle.bay_line.specs.Chains.{LeadsToUse}
use Rattle.bay_line.specs.Keepers.{has, IsWishWith, LacksOne, EachLacksSomething}
use Rattle.bay_line.proofs.Kept.{not_zero}
use Rattle.bay_line.proofs.Chain.{each_reason_ends}

-- a number that isn't zero has a bit
some_bit : (fuel n : ℕ) → n < fuel → n ≢ 0 → (i : ℕ) × (bit_at n i ≡ 1)
some_bit zero n less some = absurd (omega (arith, less))
some_bit (suc fuel) n less some = elim (cases_eq (n % 2) 1) [
  | inl odd ↦ (0, bit_at_lowest n ∙ odd)
  | inr even ↦ let rest = some_bit fuel (n / 2) (omega (arith, less, some)) (omega (arith, even, some)) in (suc rest.0, bit_at-suc n rest.0 ∙ rest.1)
]

-- what two sets have in common has a name
pub in_both : (a b : ℕ) → common a b ≡ true → (x : ℕ) × (has a x ≡ true) × (has b x ≡ true)
in_both a b h =
    let n : ℕ = bit_and a b in
    let one = some_bit (suc n) n (omega arith) (not_zero n h) in
    let both = bit_at_and a b one.0 in let is = one.1 in let x = bit_at-lt a one.0 in let y = bit_at-lt b one.0 in
    (one.0, eq-eqb (bit_at a one.0) 1 (omega (arith, both, is, x, y)), eq-eqb (bit_at b one.0) 1 (omega (arith, both, is, x, y)))

lacks : (most in_use free : ℕ) (wishes : List Wish) (n k : ℕ) → k < length wishes → LeadsToUse most in_use free wishes n k
    → LacksOne most in_use free wishes (wish_at wishes k).ask
lacks most in_use free wishes zero k inside used =
    let x = in_both (wish_at wishes k).needs in_use used in
    record { k = k; instrument = x.0; its = record { inside = inside; its = refl; needs = x.1 }; why = inl x.2 }
lacks most in_use free wishes (suc n) k inside (i, up, rest) = elim (cases_eq (wish_at wishes i).ask (wish_at wishes k).ask) [
  | inl same ↦ subst (LacksOne most in_use free wishes) same (lacks most in_use free wishes n i up.keeps.0 rest)
  | inr other ↦
      let x = in_both (wish_at wishes k).needs (wish_at wishes i).needs up.shares in
      let its : IsWishWith wishes (wish_at wishes k).ask x.0 k = record { inside = inside; its = refl; needs = x.1 } in
      record {
        k = k;
        instrument = x.0;
        its = its;
        why = inr (i, record { inside = up.keeps.0; needs = x.2; kept = up.keeps.1; another = other; from = inr (k, its, up.keeps) });
      }
]

pub each_lacks_something : EachLacksSomething
each_lacks_something most in_use free wishes all k inside = elim (each_reason_ends most in_use free wishes all k inside) [
  | inl not_ready ↦ inl not_ready
  | inr leads ↦ inr (lacks most in_use free wishes leads.0 k inside leads.2)
]
