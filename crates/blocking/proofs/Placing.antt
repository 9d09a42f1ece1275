-- The places of a plan.
use Rattle.std.proofs.Common.{◌≡◌, ℕ, zero, suc, ◌+◌, ◌<◌, List, [], ◌∷◌, ◌++◌, length, refl, sym, ap, ◌∙◌, arith, append_assoc, append-nil, add-one}
use Rattle.std.specs.List.{All, flat_map, range_with_len}
use Rattle.std.proofs.lemmas.List.Elements.{All-filter, All-nil, All-head, All-tail, All-append, All-map, All-weaker}
use Rattle.std.proofs.lemmas.List.FromFn.{get_or-range_with_len, length-range_with_len}
use Rattle.lab_plan.specs.LabPlan.{LabPlan, edges, ends, edges_of, bottles, common, both_name, instrument_numbers}
use Rattle.lab_plan.proofs.Edges.{ends_are_pair}
use Rattle.legal_steps.specs.declared.end.End.{End}
use Rattle.legal_steps.specs.declared.end.End.TheVariants.{Lower, Higher}
use Rattle.legal_steps.specs.State.{IsOwn, neighbour, job_at_end}
use Rattle.legal_steps.specs.Legal.{instrument_of}
use Rattle.legal_steps.proofs.OwnEdges.{own_edges}
use Rattle.blocking.specs.declared.places.Place.{Place}
use Rattle.blocking.specs.Blocks.{place, places_on, places_of, places}
use Rattle.blocking.specs.Watching.{IsPlace}

pub numbers_below : (n : ℕ) → All (λ i. i < n) (range_with_len 0 n)
numbers_below n k d inside =
    rw (get_or-range_with_len 0 n k d (omega (arith, inside, length-range_with_len 0 n))) (omega (arith, inside, length-range_with_len 0 n))

below_all : (plan : LabPlan) (e : ℕ) → All (λ i. i < length plan.instruments) (bottles plan e)
unfolding common
below_all plan e =
    All-filter (both_name plan (ends plan e)) (λ i. i < length plan.instruments) (instrument_numbers plan) (numbers_below (length plan.instruments))

pub all_flat : {A B : Type 0} (P : B → Type 0) (Q : A → Type 0) (f : A → List B) (l : List A) → ((x : A) → Q x → All P (f x)) → All Q l → All P (flat_map f l)
all_flat P Q f [] each all = All-nil P
all_flat P Q f (x ∷ l) each all =
    All-append P (f x) (flat_map f l) (each x (All-head Q x l all)) (all_flat P Q f l each (All-tail Q x l all))

module _ (plan : LabPlan) where
  pub all_on : (j e : ℕ) (P : Place → Type 0) → ((k : ℕ) → k < length (bottles plan e) → P (place j e k)) → All P (places_on plan j e)
  all_on j e P each = All-map P (place j e) (range_with_len 0 (length (bottles plan e)))
      (All-weaker (λ k. k < length (bottles plan e)) (λ k. P (place j e k)) each (range_with_len 0 (length (bottles plan e)))
      (numbers_below (length (bottles plan e))))

  is_place : (j e k : ℕ) → j < length plan.jobs → IsOwn plan j e → k < length (bottles plan e) → IsPlace plan (place j e k)
  is_place j e k job own bottle = record { job = job; own = own; bottle = bottle }

  pub places_on_edge : (j e : ℕ) → j < length plan.jobs → IsOwn plan j e → All (IsPlace plan) (places_on plan j e)
  places_on_edge j e job own = all_on j e (IsPlace plan) (λ k bottle. is_place j e k job own bottle)

  abbrev pub IsPlaceOf : ℕ → Place → Type 0
  IsPlaceOf j x = IsPlace plan x × (x.job ≡ j)

  pub places_of_job : (j : ℕ) → j < length plan.jobs → All (IsPlaceOf j) (places_of plan j)
  places_of_job j job = all_flat (IsPlaceOf j) (IsOwn plan j) (places_on plan j) (edges_of plan j)
      (λ e own. all_on j e (IsPlaceOf j) (λ k bottle. (is_place j e k job own bottle, refl)))
      (own_edges plan j)

  pub all_of_job : (j : ℕ) → j < length plan.jobs → All (IsPlace plan) (places_of plan j)
  all_of_job j job = All-weaker (IsPlaceOf j) (IsPlace plan) (λ x is. is.0) (places_of plan j) (places_of_job j job)

  pub all_places : All (IsPlace plan) (places plan)
  all_places = all_flat (IsPlace plan) (λ j. j < length plan.jobs) (places_of plan) (range_with_len 0 (length plan.jobs))
      all_of_job (numbers_below (length plan.jobs))

  end_inside : (e : ℕ) (x : End) → e < length (edges plan) → job_at_end plan e x < length plan.jobs
  end_inside e Lower inside = let p = ends_are_pair plan e inside in omega (arith, p.0, p.1)
  end_inside e Higher inside = (ends_are_pair plan e inside).1

  pub neighbour_inside : (x : Place) → IsPlace plan x → neighbour plan x.job x.edge < length plan.jobs
  neighbour_inside x is = end_inside x.edge _ is.own.is_edge

  pub instrument_below : (e k : ℕ) → k < length (bottles plan e) → instrument_of plan e k < length plan.instruments
  instrument_below e k inside = below_all plan e k 0 inside

  pub instrument_inside : (x : Place) → IsPlace plan x → instrument_of plan x.edge x.bottle < length plan.instruments
  instrument_inside x is = instrument_below x.edge x.bottle is.bottle

-- one number more
pub numbers_more : {A : Type 0} (f : ℕ → List A) (now new : List A) (n : ℕ) → now ≡ flat_map f (range_with_len 0 n) → new ≡ now ++ f n
    → new ≡ flat_map f (range_with_len 0 (n + 1))
numbers_more {A} f now new n is added =
    added ∙ (ap (λ (l : List A). l ++ f n) is
    ∙ (sym (more 0 n n (omega arith)) ∙ ap (λ m. flat_map f (range_with_len 0 m)) (sym (add-one n)))) where
      more : (a m k : ℕ) → a + m ≡ k → flat_map f (range_with_len a (suc m)) ≡ flat_map f (range_with_len a m) ++ f k
      more a zero k e = let same : a ≡ k = omega (arith, e) in append-nil (f a) ∙ ap f same
      more a (suc m) k e = ap (λ (l : List A). f a ++ l) (more (a + 1) m k (omega (arith, e)))
          ∙ sym (append_assoc (f a) (flat_map f (range_with_len (a + 1) m)) (f k))
