-- A colouring on its way: what is near a job, and one more job that gets its colour.
use Rattle.std.proofs.Common.{◌≡◌, ◌≢◌, ◌⊎◌, ℕ, ◌+◌, ◌<◌, ◌≤◌, List, length, slice_index, slice_index_or, arith, refl, sym, subst, ap, ◌∙◌}
use Rattle.std.proofs.Common.{inl, inr, get_or-set_same, get_or-set_other}
use Rattle.std.specs.Prelude.{◌==◌, min, max, cond, true, false, replicate}
use Rattle.std.specs.List.{All, Contains, count_by}
use Rattle.std.proofs.Math.ListN.{set, length-set}
use Rattle.std.proofs.lemmas.Bool.{cases_eq, eq-eqb, ne_eqb}
use Rattle.std.proofs.lemmas.List.{length-replicate, get_or-replicate}
use Rattle.std.proofs.lemmas.List.Elements.{All-replicate, Contains-get_or}
use Rattle.std.proofs.lemmas.List.Sums.{sum_by-set, count_by-le-length}
use Rattle.lab_plan.specs.LabPlan.{LabPlan, edges, ends, lower_first}
use Rattle.lab_plan.proofs.Edges.{IsPair, edges_are_pairs, ends_are_pair}
use Rattle.arranging.specs.Colours.{IsNear}

-- ---- neighbours

-- a neighbour is a job of the plan, and another one
pub other_job : (plan : LabPlan) (a b : ℕ) → Contains (edges plan) (lower_first a b) → (b < length plan.jobs) × (b ≢ a)
other_job plan a b there =
    let pair : IsPair (length plan.jobs) (lower_first a b) =
    subst (IsPair (length plan.jobs)) there.2 (edges_are_pairs plan there.0 (lower_first a b) there.1) in
    (omega (arith, pair), λ same. omega (arith, pair, same))

-- the ends of an edge are neighbours
ends_meet : (plan : LabPlan) (e a b : ℕ) → e < length (edges plan) → (ends plan e).0 ≡ min a b → (ends plan e).1 ≡ max a b
    → Contains (edges plan) (lower_first a b)
ends_meet plan e a b here low high =
    let same : ends plan e ≡ lower_first a b = λ i. (low i, high i) in
    subst (Contains (edges plan)) same (Contains-get_or (edges plan) e (0, 0) here)

-- ---- a colouring on its way

-- how many jobs have no colour yet; these have the number 255
abbrev pub uncoloured : List ℕ → ℕ
uncoloured colours = count_by (λ colour. colour == 255) colours

pub record IsOnItsWay (plan : LabPlan) (colours : List ℕ) (count : ℕ) : Type 0 where
  pub one_each : length colours ≡ length plan.jobs
  pub few : count + uncoloured colours ≤ length plan.jobs
  pub used : All (λ colour. (colour ≡ 255) ⊎ (colour < count)) colours
  pub differ : (e : ℕ) → e < length (edges plan) → slice_index colours (ends plan e).0 ≡ slice_index colours (ends plan e).1
      → slice_index colours (ends plan e).0 ≡ 255
  pub greedy : (job colour : ℕ) → job < length plan.jobs → slice_index colours job ≢ 255 → colour < slice_index colours job
      → IsNear plan colours job colour

pub begins : (plan : LabPlan) (colours : List ℕ) → colours ≡ replicate (length plan.jobs) 255 → IsOnItsWay plan colours 0
begins plan colours is =
    let jobs = length plan.jobs in
    let long : length colours ≡ jobs = ap length is ∙ length-replicate jobs 255 in
    let all : (k : ℕ) → k < jobs → slice_index colours k ≡ 255 = λ k below. ap (λ cs. slice_index cs k) is ∙ get_or-replicate jobs k 255 0 below in record {
      one_each = long;
      few = omega (arith, count_by-le-length (λ c. c == 255) colours, long);
      used = subst (All (λ colour. (colour ≡ 255) ⊎ (colour < 0))) (sym is) (All-replicate (λ colour. (colour ≡ 255) ⊎ (colour < 0)) jobs 255 (inl refl));
      differ = λ e here same. let pair = ends_are_pair plan e here in all (ends plan e).0 (omega (arith, pair));
      greedy = λ job colour below has less. absurd (has (all job below));
    }

-- one more job gets a colour
module _ (plan : LabPlan) (colours : List ℕ) (count job v : ℕ) (on : IsOnItsWay plan colours count) (here : job < length plan.jobs)
    (none : slice_index colours job ≡ 255) (small : length plan.jobs ≤ 32) (most : v ≤ count) (free : ¬ IsNear plan colours job v)
    (least : (colour : ℕ) → colour < v → IsNear plan colours job colour) where
  inside : job < length colours
  inside = omega (arith, here, on.one_each)

  its_own : (d : ℕ) → slice_index_or (set colours job v) job d ≡ v
  its_own d = get_or-set_same colours job v d inside

  as_before : (k d : ℕ) → k ≢ job → slice_index_or (set colours job v) k d ≡ slice_index_or colours k d
  as_before k d other = get_or-set_other colours job k v d other

  -- what is near a job stays so
  stays : (k c : ℕ) → c ≢ 255 → IsNear plan colours k c → IsNear plan (set colours job v) k c
  stays k c real (other, there, is) = (
    other,
    there,
    as_before other 0 (λ same. real (sym is ∙ ap (slice_index colours) same ∙ none)) ∙ is,
  )

  fewer : uncoloured (set colours job v) + 1 ≡ uncoloured colours
  fewer =
      let was : (slice_index colours job == 255) ≡ true = eq-eqb (slice_index colours job) 255 none in
      let is : (v == 255) ≡ false = ne_eqb v 255 (λ e. omega (arith, e, most, on.few, small)) in
      let f : ℕ → ℕ = λ c. cond (c == 255) 1 0 in
      let one : f (slice_index colours job) ≡ 1 = ap (λ b. cond b 1 0) was in
      let zero : f v ≡ 0 = ap (λ b. cond b 1 0) is in
      let all = sum_by-set f colours job v 0 inside in
      omega (arith, one, zero, all)

  still_used : All (λ colour. (colour ≡ 255) ⊎ (colour < max count (v + 1))) (set colours job v)
  still_used k d below = elim (cases_eq k job) [
    | inl same ↦ inr (let own = ap (λ n. slice_index_or (set colours job v) n d) same ∙ its_own d in omega (arith, own))
    | inr other ↦
        let old = as_before k d other in
        elim (on.used k d (omega (arith, below, length-set colours job v))) [
          | inl unset ↦ inl (old ∙ unset)
          | inr less ↦ inr (omega (arith, old, less))
        ]
  ]

  still_differ : (e : ℕ) → e < length (edges plan) → slice_index (set colours job v) (ends plan e).0 ≡ slice_index (set colours job v) (ends plan e).1
      → slice_index (set colours job v) (ends plan e).0 ≡ 255
  still_differ e edge same =
      let a = (ends plan e).0 in
      let b = (ends plan e).1 in
      let pair = ends_are_pair plan e edge in
      elim (cases_eq a job) [
        | inl first ↦
            let own = ap (λ n. slice_index (set colours job v) n) first ∙ its_own 0 in
            let old = as_before b 0 (λ e. omega (arith, e, first, pair)) in
            absurd (free (b, ends_meet plan e job b edge (omega (arith, first, pair)) (omega (arith, first, pair)), sym old ∙ sym same ∙ own))
        | inr not_first ↦ elim (cases_eq b job) [
          | inl second ↦
              let own = ap (λ n. slice_index (set colours job v) n) second ∙ its_own 0 in
              let old = as_before a 0 not_first in
              absurd (free (a, ends_meet plan e job a edge (omega (arith, second, pair)) (omega (arith, second, pair)), sym old ∙ same ∙ own))
          | inr not_second ↦ as_before a 0 not_first ∙ on.differ e edge (sym (as_before a 0 not_first) ∙ same ∙ as_before b 0 not_second)
        ]
      ]

  still_greedy : (k c : ℕ) → k < length plan.jobs → slice_index (set colours job v) k ≢ 255 → c < slice_index (set colours job v) k
      → IsNear plan (set colours job v) k c
  still_greedy k c below has less = elim (cases_eq k job) [
    | inl same ↦
        let own = ap (λ n. slice_index (set colours job v) n) same ∙ its_own 0 in
        let under : c < v = omega (arith, less, own) in
        subst (λ n. IsNear plan (set colours job v) n c) (sym same) (stays job c (λ e. omega (arith, e, under, most, on.few, small)) (least c under))
    | inr other ↦
        let old = as_before k 0 other in
        let under : c < slice_index colours k = omega (arith, less, old) in
        let real : slice_index colours k ≢ 255 = λ e. has (old ∙ e) in
        let low : slice_index colours k < count =
        elim (on.used k 0 (omega (arith, below, on.one_each))) [ inl unset ↦ absurd (real unset) | inr few ↦ few ] in
        stays k c (λ e. omega (arith, e, under, low, on.few, small)) (on.greedy k c below real under)
  ]

  pub goes_on : IsOnItsWay plan (set colours job v) (max count (v + 1))
  goes_on = record {
    one_each = length-set colours job v ∙ on.one_each;
    few = omega (arith, fewer, on.few, most);
    used = still_used;
    differ = still_differ;
    greedy = still_greedy;
  }
