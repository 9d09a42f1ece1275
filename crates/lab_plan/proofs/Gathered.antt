-- The bottles that a session needs, as a set that grows bottle by bottle.
use Rattle.std.proofs.Common.{◌≡◌, ◌↔◌, ℕ, ◌+◌, ◌*◌, ◌%◌, ◌^◌, ◌<◌, bit_or, true, length, slice_index_or, w32, arith, inl, inr, sym, ◌∙◌, subst, add-one}
use Rattle.std.specs.Int.{bit_at}
use Rattle.std.specs.List.{All, range_with_len}
use native.Mathlib.Numerals.{unary_clauses}
use Rattle.std.proofs.lemmas.Bool.{cases_eq}
use Rattle.std.proofs.lemmas.Nat.{or_lt}
use Rattle.std.proofs.lemmas.Nat.Bits.{bit_at_set_same, bit_at_set_other, bit_at_above}
use Rattle.std.proofs.lemmas.List.Elements.{All-filter}
use Rattle.std.proofs.lemmas.List.FromFn.{get_or-range_with_len, length-range_with_len}
use Rattle.lab_plan.specs.Limits.{most_instruments}
use Rattle.lab_plan.specs.LabPlan.{LabPlan, bottles, common, ends, both_name, instrument_numbers, commands}
use Rattle.lab_plan.specs.IsPlan.{IsPlan}
use Rattle.lab_plan.specs.InstrumentSets.{holds}
use Rattle.lab_plan.specs.SessionTables.{AreNeeds}
use Rattle.lab_plan.specs.NeededBottles.{AreNamed}

-- the numbers below n of which P holds, as a set
abbrev pub Gathered : ℕ → ℕ → (ℕ → Type 0) → Type 0
Gathered set n P = (set < 2 ^ n) × ((k : ℕ) → k < n → (bit_at set k ≡ 1) ↔ P k)

twice : (n : ℕ) → 2 ^ (n + 1) ≡ 2 * 2 ^ n
twice n = rw add-one (simp unary_clauses (omega arith))

pub gathered_in : (set n : ℕ) (P : ℕ → Type 0) → n < 32 → Gathered set n P → P n → Gathered (bit_or set (1 * 2 ^ n % 2 ^ 32)) (n + 1) P
gathered_in set n P few (below, just) p = (
  or_lt (n + 1) set _ (omega (arith, twice n)) (omega (arith, twice n)),
  λ k l. elim (cases_eq k n) [
    | inl is ↦ (λ h. subst P (sym is) p, λ q. subst (λ z. bit_at (bit_or set (1 * 2 ^ n % 2 ^ 32)) z ≡ 1) (sym is) (bit_at_set_same w32 set n few))
    | inr other ↦ let same : bit_at (bit_or set (1 * 2 ^ n % 2 ^ 32)) k ≡ bit_at set k = bit_at_set_other w32 set n few k other in
        let old = just k (omega (arith, other)) in
        (λ h. old.0 (sym same ∙ h), λ q. same ∙ old.1 q)
  ],
)

pub gathered_out : (set n : ℕ) (P : ℕ → Type 0) → Gathered set n P → ¬ P n → Gathered set (n + 1) P
gathered_out set n P (below, just) other_way = (
  omega (arith, twice n),
  λ k l. elim (cases_eq k n) [
    | inl is ↦ (
      λ h. let high : bit_at set k ≡ 0 = bit_at_above set n k below (omega (arith, is)) in absurd (omega arith),
      λ q. absurd (other_way (subst P is q)),
    )
    | inr other ↦ just k (omega (arith, other))
  ],
)

-- ---- instruments of bottles

numbers_below : (n : ℕ) → All (λ i. i < n) (range_with_len 0 n)
numbers_below n k d inside =
    rw (get_or-range_with_len 0 n k d (omega (arith, inside, length-range_with_len 0 n))) (omega (arith, inside, length-range_with_len 0 n))

below_all : (plan : LabPlan) (e : ℕ) → All (λ i. i < length plan.instruments) (bottles plan e)
unfolding common
below_all plan e =
    All-filter (both_name plan (ends plan e)) (λ i. i < length plan.instruments) (instrument_numbers plan) (numbers_below (length plan.instruments))

pub small_instruments : (plan : LabPlan) (e : ℕ) → IsPlan plan → All (λ i. i < most_instruments) (bottles plan e)
small_instruments plan e is k d inside = omega (arith, below_all plan e k d inside, is.draft.few_instruments)

pub are_named : (plan : LabPlan) (j s e set needs : ℕ) → AreNeeds (commands plan j s) needs → set < 2 ^ length (bottles plan e)
    → ((k : ℕ) → k < length (bottles plan e) → (bit_at set k ≡ 1) ↔ (holds needs (slice_index_or (bottles plan e) k 0) ≡ true))
    → AreNamed plan j s e set
are_named plan j s e set needs is below just = record {
  of_edge = below;
  just = λ k l. let named = is (slice_index_or (bottles plan e) k 0) in
      let has = just k l in
      ((λ h. sym named ∙ has.0 h), (λ h. has.1 (named ∙ h)));
}
