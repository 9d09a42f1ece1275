-- What the tables of a plan say of it.
use Rattle.std.proofs.Common.{◌≡◌, ℕ, ◌+◌, ◌-◌, ◌*◌, ◌/◌, ◌%◌, ◌^◌, ◌<◌, ◌≤◌, List, [], ◌∷◌, Bool, true, cond, ◌||◌, nat_eq, pow_pos, length, map, filter, slice_index_or, arith, sym, ap, ◌∙◌, subst, inl, inr}
use Rattle.std.specs.Int.{bit_at}
use Rattle.std.proofs.lemmas.Nat.{div-add-mod'}
use Rattle.std.specs.List.{list_any}
use Rattle.std.proofs.lemmas.Bool.{cases_Bool, cases_lt, false≢true}
use Rattle.std.proofs.lemmas.List.{get_or-map}
use Rattle.std.proofs.lemmas.List.Elements.{filter_passes}
use Rattle.std.proofs.lemmas.Nat.Bits.{same_from_bits, bit_at_cat_low, bit_at_above}
use Rattle.std.proofs.lemmas.List.{length-map}
use Rattle.lab_plan.specs.LabPlan.{LabPlan, edges, ends, edges_of, common, bottles, both_name, instrument_numbers, pairs, pairs_with, job_at, sessions, commands, session_names}
use Rattle.lab_plan.specs.IsPlan.{IsPlan}
use Rattle.lab_plan.specs.InstrumentSets.{holds}
use Rattle.lab_plan.specs.Cuts.{commands_before}
use Rattle.lab_plan.specs.SessionTables.{JobTable, AreNeeds, IsJobTable, AreJobTables, place_of, all_places, no_table, no_place}
use Rattle.lab_plan.proofs.Bits.{bit_cases}
use Rattle.lab_plan.proofs.Places.{length-places, place_within, place_read}
use Rattle.lab_plan.proofs.Small.{few_in_job}
use Rattle.lab_plan.proofs.Shared.{session-instrument}

pub pairs_with_is : (plan : LabPlan) (found : List (ℕ × ℕ)) (j : ℕ) → found ≡ edges plan → pairs_with found j ≡ edges_of plan j
pairs_with_is plan found j is = ap (λ ps. pairs_with ps j) is

pub bottle_lists : (plan : LabPlan) (lists : List (List ℕ)) → lists ≡ map (common plan) (edges plan) → length lists ≡ length (edges plan)
bottle_lists plan lists is = ap length is ∙ length-map (edges plan) (common plan)

pub bottles_at : (plan : LabPlan) (lists : List (List ℕ)) (e : ℕ) (d : List ℕ)
    → lists ≡ map (common plan) (edges plan) → e < length (edges plan) → slice_index_or lists e d ≡ bottles plan e
bottles_at plan lists e d is within = ap (λ ls. slice_index_or ls e d) is ∙ get_or-map (common plan) (edges plan) e (0, 0) d within

pub few_bottles : (plan : LabPlan) (e : ℕ) → IsPlan plan → e < length (edges plan) → length (bottles plan e) ≤ 28
few_bottles plan e plan_is within = plan_is.few_bottles e within

kept_some : (p : ℕ → Bool) (xs : List ℕ) → list_any p xs ≡ true → 0 < length (filter p xs)
kept_some p [] h = absurd (false≢true h)
kept_some p (x ∷ xs) h = elim (cases_Bool (p x)) [
  | inl g ↦ rw g (omega arith)
  | inr g ↦ rw g (kept_some p xs (subst (λ b. (b || list_any p xs) ≡ true) g h))
]

pub some_bottles : (plan : LabPlan) (e : ℕ) → e < length (edges plan) → 0 < length (bottles plan e)
unfolding edges common
some_bottles plan e within =
    let p : ℕ × ℕ → Bool = λ pair. list_any (both_name plan pair) (instrument_numbers plan) in
    kept_some (both_name plan (ends plan e)) (instrument_numbers plan) (filter_passes p (pairs (length plan.jobs)) e (0, 0) within)

-- ---- sessions

pub job_tables_of : (plan : LabPlan) (tables : List JobTable) → AreJobTables plan.jobs tables → length tables ≡ length plan.jobs
job_tables_of plan tables are = are.0

pub table_of : (plan : LabPlan) (tables : List JobTable) (j : ℕ) → AreJobTables plan.jobs tables → j < length plan.jobs
    → IsJobTable (job_at plan j) (slice_index_or tables j no_table)
table_of plan tables j are within = are.1 j within

pub needs_bit : (plan : LabPlan) (j s i set : ℕ) → AreNeeds (commands plan j s) set → bit_at set i ≡ cond (session_names plan j s i) 1 0
unfolding holds
needs_bit plan j s i set is = elim (bit_cases set i) [
  | inl h ↦ h ∙ ap (λ b. cond b 1 0) (ap (λ n. nat_eq n 1) (sym h) ∙ is i)
  | inr h ↦ h ∙ ap (λ b. cond b 1 0) (ap (λ n. nat_eq n 1) (sym h) ∙ is i)
]

-- a number with no bit from k on
below_from_bits : (n k : ℕ) → ((i : ℕ) → k ≤ i → bit_at n i ≡ 0) → n < 2 ^ k
below_from_bits n k none =
    let some : 0 < 2 ^ k = pow_pos k in
    let low : n % 2 ^ k < 2 ^ k = omega arith in
    let split : n / 2 ^ k * 2 ^ k + n % 2 ^ k ≡ n = div-add-mod' n (2 ^ k) in
    let same : n ≡ n % 2 ^ k = same_from_bits n (n % 2 ^ k) (λ i. elim (cases_lt i k) [
      | inl h ↦ ap (λ m. bit_at m i) (sym split) ∙ bit_at_cat_low (n / 2 ^ k) k (n % 2 ^ k) i h
      | inr h ↦ none i h ∙ sym (bit_at_above (n % 2 ^ k) k i low h)
    ]) in
    subst (λ m. m < 2 ^ k) (sym same) low

pub needs_below : (plan : LabPlan) (j s set : ℕ) → IsPlan plan → AreNeeds (commands plan j s) set → set < 2 ^ length plan.instruments
needs_below plan j s set plan_is is = below_from_bits set (length plan.instruments) (λ i past.
    needs_bit plan j s i set is ∙ elim (cases_Bool (session_names plan j s i)) [
      | inl h ↦ let below = session-instrument plan j s i plan_is.draft.named h in absurd (omega (arith, below, past))
      | inr h ↦ ap (λ b. cond b 1 0) h
    ])

-- ---- the place of a command, which stands behind those of the sessions before

pub place_few : (plan : LabPlan) (j s n at : ℕ) → IsPlan plan → j < length plan.jobs → 1 ≤ s → s ≤ length (sessions plan j) → n < length (commands plan j s)
    → at ≡ commands_before (sessions plan j) (s - 1) → at + n < 100000
place_few plan j s n at plan_is in_jobs begun is_session within is =
    let inside = place_within (sessions plan j) (s - 1) n (omega (arith, begun, is_session)) within in
    omega (arith, inside, is, few_in_job plan j plan_is.draft in_jobs)

pub place_inside : (plan : LabPlan) (j s n at : ℕ) (table : JobTable) → IsJobTable (job_at plan j) table → 1 ≤ s → s ≤ length (sessions plan j)
    → n < length (commands plan j s) → at ≡ commands_before (sessions plan j) (s - 1) → at + n < length table.places
place_inside plan j s n at table table_is begun is_session within is =
    let inside = place_within (sessions plan j) (s - 1) n (omega (arith, begun, is_session)) within in
    omega (arith, inside, is, length-places (sessions plan j), ap length table_is.places)

pub place_is : (plan : LabPlan) (j s n at : ℕ) (table : JobTable) → IsJobTable (job_at plan j) table → 1 ≤ s → s ≤ length (sessions plan j)
    → n < length (commands plan j s) → at ≡ commands_before (sessions plan j) (s - 1)
    → slice_index_or table.places (at + n) no_place ≡ place_of (commands plan j s) n
place_is plan j s n at table table_is begun is_session within is =
    ap (λ l. slice_index_or l (at + n) no_place) table_is.places
    ∙ ap (λ m. slice_index_or (all_places (sessions plan j)) (m + n) no_place) is
    ∙ place_read (sessions plan j) (s - 1) n (omega (arith, begun, is_session)) within
