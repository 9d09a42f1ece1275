-- What follows where jobs are the same in another order.
use Rattle.std.proofs.Common.{◌≡◌, ℕ, suc, ◌<◌, List, [], ◌∷◌, length, map, slice_index, slice_index_or, arith, refl, sym, ap, ◌∙◌}
use Rattle.std.specs.Prelude.{◌≢◌}
use Rattle.std.specs.List.{All}
use Rattle.std.proofs.lemmas.List.{length-map, get_or-map}
use Rattle.std.proofs.lemmas.List.Elements.{All-map}
use Rattle.std.proofs.lemmas.List.FromFn.{length-range_with_len, get_or-range_with_len}
use Rattle.std.proofs.lemmas.List.Sorted.{All-permutation}
use Rattle.lab_plan.specs.LabPlan.{LabPlan, edges, ends}
use Rattle.lab_plan.proofs.Edges.{ends_are_pair}
use Rattle.arranging.specs.Colours.{IsColouring, jobs_by_number, in_order}
use Rattle.arranging.specs.Reordered.{colours_along, ArrangedChainsAreShort}
use Rattle.arranging.proofs.Chains.{chains_are_short}
use Rattle.arranging.proofs.Orders.{orders_keep_jobs, orders_climb}

-- lists that are the same place by place
pub maps_meet : {A B C : Type 0} (f : A → C) (g : B → C) (xs : List A) (ys : List B) (d : A) (e : B) → length xs ≡ length ys
    → ((k : ℕ) → k < length xs → f (slice_index_or xs k d) ≡ g (slice_index_or ys k e)) → map f xs ≡ map g ys
maps_meet f g [] [] d e same h = refl
maps_meet f g [] (y ∷ ys) d e same h = absurd (omega (arith, same))
maps_meet f g (x ∷ xs) [] d e same h = absurd (omega (arith, same))
maps_meet f g (x ∷ xs) (y ∷ ys) d e same h =
    let head : f x ≡ g y = h 0 (omega arith) in
    let tail = maps_meet f g xs ys d e (omega (arith, same)) (λ k below. h (suc k) (omega (arith, below))) in
    λ i. head i ∷ tail i

-- where maps are the same, so are the lengths, and what stands at each place
pub maps_long : {A B C : Type 0} (f : A → C) (g : B → C) (xs : List A) (ys : List B) → map f xs ≡ map g ys → length xs ≡ length ys
maps_long f g xs ys all = sym (length-map xs f) ∙ ap length all ∙ length-map ys g

pub maps_same : {A B C : Type 0} (f : A → C) (g : B → C) (xs : List A) (ys : List B) (k : ℕ) (d : A) (e : B) → map f xs ≡ map g ys → k < length xs
    → f (slice_index_or xs k d) ≡ g (slice_index_or ys k e)
maps_same f g xs ys k d e all here =
    let there : k < length ys = omega (arith, here, maps_long f g xs ys all) in
    sym (get_or-map f xs k d (f d) here) ∙ ap (λ l. slice_index_or l k (f d)) all ∙ get_or-map g ys k e (f d) there

-- the order has jobs of the plan
pub of_plan : (plan : LabPlan) (colours : List ℕ) (count : ℕ) → IsColouring plan colours count → All (λ job. job < length plan.jobs) (in_order colours count)
of_plan plan colours count is =
    let long = length-range_with_len 0 (length colours) in
    All-permutation (λ job. job < length plan.jobs) (jobs_by_number colours) (in_order colours count) (orders_keep_jobs colours count is.few)
    (λ k d below.
    let number = get_or-range_with_len 0 (length colours) k d (omega (arith, below, long)) in
    omega (arith, number, below, long, is.one_each))

-- colours that differ along an order
pub along_is : (plan : LabPlan) (colours order : List ℕ) (count : ℕ) → length order ≡ length plan.jobs → All (λ job. job < length colours) order
    → All (λ colour. colour < count) colours
    → ((e : ℕ) → e < length (edges plan)
    → slice_index colours (slice_index order (ends plan e).0) ≢ slice_index colours (slice_index order (ends plan e).1))
    → IsColouring plan (colours_along colours order) count
along_is plan colours order count long inside few differ = record {
  one_each = length-map order (slice_index colours) ∙ long;
  few = All-map (λ colour. colour < count) (slice_index colours) order (λ k d below. few (slice_index_or order k d) 0 (inside k d below));
  differ = λ e here same.
      let pair = ends_are_pair plan e here in
      let low = get_or-map (slice_index colours) order (ends plan e).0 0 0 (omega (arith, pair, long)) in
      let high = get_or-map (slice_index colours) order (ends plan e).1 0 0 (omega (arith, pair, long)) in
      differ e here (sym low ∙ same ∙ high);
}

-- the other way round: where the colours along an order are a colouring, the colours differ along it
pub along_differs : (plan : LabPlan) (colours order : List ℕ) (count : ℕ) → length order ≡ length plan.jobs
    → IsColouring plan (colours_along colours order) count → (e : ℕ) → e < length (edges plan)
    → slice_index colours (slice_index order (ends plan e).0) ≢ slice_index colours (slice_index order (ends plan e).1)
along_differs plan colours order count long is e here same =
    let pair = ends_are_pair plan e here in
    let low = get_or-map (slice_index colours) order (ends plan e).0 0 0 (omega (arith, pair, long)) in
    let high = get_or-map (slice_index colours) order (ends plan e).1 0 0 (omega (arith, pair, long)) in
    is.differ e here (low ∙ same ∙ sym high)

pub arranged_chains_are_short : ArrangedChainsAreShort
arranged_chains_are_short plan made arranged is jobs chain =
    chains_are_short arranged (colours_along made.colours (in_order made.colours made.count)) made.count is.colouring
    (orders_climb made.colours made.count) jobs chain
