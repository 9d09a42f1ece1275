-- The edges by the sets of what the jobs name.
use Rattle.std.proofs.Common.{◌≡◌, ℕ, ◌<◌, List, [], ◌∷◌, Bool, true, cond, ◌&&◌, nat_lt, length, filter, arith, refl, sym, ap, ◌∙◌, inl, inr, subst}
use Rattle.std.specs.List.{range_with_len, list_any}
use Rattle.std.proofs.lemmas.Bool.{cases_Bool, ltb-true}
use Rattle.std.proofs.lemmas.Map.Views.{any-filter_same}
use Rattle.lab_plan.specs.LabPlan.{LabPlan, edges, common, pairs, both_name, instrument_numbers}
use Rattle.lab_plan.specs.Building.{has_too_many_in_common}
use Rattle.lab_plan.specs.NamedBy.{AreNaming, both_hold, meeting, are_crowded, rows}

-- the sets say who names what
pub both_is : (plan : LabPlan) (sets : List ℕ) → AreNaming plan.jobs sets → (pair : ℕ × ℕ) → both_hold sets pair ≡ both_name plan pair
both_is plan sets naming pair = λ t i. naming pair.0 i t && naming pair.1 i t

some_kept : (p : ℕ → Bool) (xs : List ℕ) → 0 < length (filter p xs) → list_any p xs ≡ true
some_kept p [] h = absurd (omega (arith, h))
some_kept p (x ∷ xs) h = elim (cases_Bool (p x)) [
  | inl g ↦ rw g refl
  | inr g ↦ rw g (some_kept p xs (subst (λ b. 0 < length (cond b (x ∷ filter p xs) (filter p xs))) g h))
]

pub crowded_is : (plan : LabPlan) (sets : List ℕ) → AreNaming plan.jobs sets
    → list_any (are_crowded sets (length plan.instruments)) (rows (length plan.jobs) (length plan.jobs)) ≡ has_too_many_in_common plan
unfolding edges common
crowded_is plan sets naming =
    let p : ℕ × ℕ → Bool = λ pair. list_any (both_name plan pair) (instrument_numbers plan) in
    let q : ℕ × ℕ → Bool = λ pair. nat_lt 28 (length (filter (both_name plan pair) (instrument_numbers plan))) in
    let more : (pair : ℕ × ℕ) → q pair ≡ true → p pair ≡ true =
    λ pair h. let b = ltb-true 28 (length (filter (both_name plan pair) (instrument_numbers plan))) h in
    some_kept (both_name plan pair) (instrument_numbers plan) (omega (arith, b)) in
    let same : are_crowded sets (length plan.instruments) ≡ q =
    λ t pair. nat_lt 28 (length (filter (both_is plan sets naming pair t) (instrument_numbers plan))) in
    ap (λ r. list_any r (rows (length plan.jobs) (length plan.jobs))) same ∙ sym (any-filter_same q p true more (pairs (length plan.jobs)))

pub meeting_is : (plan : LabPlan) (sets : List ℕ) → AreNaming plan.jobs sets → meeting sets (length plan.instruments) (length plan.jobs) ≡ edges plan
unfolding edges
meeting_is plan sets naming = λ t. filter (λ pair. list_any (both_is plan sets naming pair t) (instrument_numbers plan)) (pairs (length plan.jobs))

pub bottles_are : (plan : LabPlan) (sets : List ℕ) → AreNaming plan.jobs sets
    → (λ (pair : ℕ × ℕ). filter (both_hold sets pair) (range_with_len 0 (length plan.instruments))) ≡ common plan
unfolding common
bottles_are plan sets naming = λ t pair. filter (both_is plan sets naming pair t) (instrument_numbers plan)
