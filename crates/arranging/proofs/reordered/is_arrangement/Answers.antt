use Rattle.std.proofs.Common.{◌≡◌, ◌<◌, List, ℕ, length, arith, sym, ap, ◌∙◌, subst}
use Rattle.std.specs.Prelude.{◌≢◌, slice_index}
use Rattle.std.specs.List.{All}
use Rattle.lab_plan.specs.LabPlan.{LabPlan, edges, ends}
use Rattle.arranging.specs.Colours.{ColouringView, IsColouring, in_order}
use Rattle.arranging.specs.Reordered.{HasJobsOf, IsArrangement}
use Rattle.arranging.proofs.Orders.{orders_keep_jobs}
use Rattle.arranging.proofs.Arrangements.{of_plan, along_is, along_differs}
use Rattle.arranging.proofs.reordered.is_arrangement.Goals as goal

-- what was judged, along the order by colour
judged : (plan arranged : LabPlan) (made : ColouringView) (order seen : List ℕ) → IsColouring plan made.colours made.count → order ≡ in_order made.colours made.count
    → seen ≡ made.colours → arranged.version ≡ plan.version → length order ≡ length arranged.jobs → HasJobsOf plan order arranged
    → ((e : ℕ) → e < length (edges arranged) → slice_index seen (slice_index order (ends arranged e).0) ≢ slice_index seen (slice_index order (ends arranged e).1))
    → IsArrangement plan made arranged
judged plan arranged made order seen is by same version long jobs differ =
    let inside : All (λ job. job < length made.colours) (in_order made.colours made.count) =
    λ k d below. omega (arith, of_plan plan made.colours made.count is k d below, is.one_each) in
    record {
      version = version;
      each_once = orders_keep_jobs made.colours made.count is.few;
      same_jobs = subst (λ (l : List ℕ). HasJobsOf plan l arranged) by jobs;
      colouring = along_is arranged made.colours (in_order made.colours made.count) made.count (sym (ap length by) ∙ long) inside is.few
          (subst (λ (l : List ℕ). (e : ℕ) → e < length (edges arranged)
          → slice_index made.colours (slice_index l (ends arranged e).0) ≢ slice_index made.colours (slice_index l (ends arranged e).1)) by
          (subst (λ (l : List ℕ). (e : ℕ) → e < length (edges arranged)
          → slice_index l (slice_index order (ends arranged e).0) ≢ slice_index l (slice_index order (ends arranged e).1)) same differ));
    }

-- what was judged last, where it is an arrangement
differs : (plan arranged : LabPlan) (made : ColouringView) (order seen : List ℕ) → order ≡ in_order made.colours made.count → seen ≡ made.colours
    → length order ≡ length arranged.jobs → IsArrangement plan made arranged → (e : ℕ) → e < length (edges arranged)
    → slice_index seen (slice_index order (ends arranged e).0) ≢ slice_index seen (slice_index order (ends arranged e).1)
differs plan arranged made order seen by same long is =
    subst (λ (l : List ℕ). (e : ℕ) → e < length (edges arranged)
    → slice_index l (slice_index order (ends arranged e).0) ≢ slice_index l (slice_index order (ends arranged e).1)) (sym same)
    (subst (λ (l : List ℕ). (e : ℕ) → e < length (edges arranged)
    → slice_index made.colours (slice_index l (ends arranged e).0) ≢ slice_index made.colours (slice_index l (ends arranged e).1)) (sym by)
    (along_differs arranged made.colours (in_order made.colours made.count) made.count (sym (ap length by) ∙ long) is.colouring))

pub has_jobs_of-requires : goal.has_jobs_of-requires
has_jobs_of-requires g c =
    let made = c.args.colouring.now in
    subst (All (λ job. job < length c.args.plan.now.jobs)) (sym c.requires.order) (of_plan c.args.plan.now made.colours made.count c.requires.colours)

pub differ_along-requires-clause-coloured : goal.differ_along-requires-clause-coloured
differ_along-requires-clause-coloured g c =
    let made = c.args.colouring.now in
    let inside : All (λ job. job < length c.args.plan.now.jobs) c.args.order.now =
    subst (All (λ job. job < length c.args.plan.now.jobs)) (sym c.requires.order) (of_plan c.args.plan.now made.colours made.count c.requires.colours) in
    λ k d below. omega (arith, inside k d below, c.requires.colours.one_each, ap length c.colours.ensures)

pub returns : goal.returns
returns g c =
    let long = c.if-order-jobs.false ∙ c.jobs.ensures.jobs in (
      λ yes. judged c.args.plan.now c.args.arranged.now c.args.colouring.now c.args.order.now c.colours.result.now c.requires.colours c.requires.order
          c.colours.ensures (sym c.version-2.ensures ∙ sym c.if-version.false ∙ c.version.ensures)
          long (c.has_jobs_of.ensures.0 c.if-not-has_jobs_of.false) (c.differ_along.ensures.0 yes),
      λ is. c.differ_along.ensures.1 (differs c.args.plan.now c.args.arranged.now c.args.colouring.now c.args.order.now c.colours.result.now c.requires.order
          c.colours.ensures long is),
    )
