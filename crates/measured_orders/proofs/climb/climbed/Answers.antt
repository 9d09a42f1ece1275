use Rattle.std.proofs.Common.{◌∙◌, ap, length, subst, sym, true}
use Rattle.std.specs.List.{range_with_len}
use Rattle.std.specs.List.Sorted.{IsPermutation}
use Rattle.std.proofs.lemmas.List.Sorted.{IsPermutation-trans}
use Rattle.measured_orders.specs.Orders.{IsClimbed, IsOrder, TriedView}
use Rattle.measured_orders.proofs.Better.{as_viewed}
use Rattle.measured_orders.proofs.Picked.{goes_on}
use Rattle.measured_orders.proofs.climb.climbed.Goals.{then-not-is_better, else-not-is_better, then-is_better, else-is_better}
use Rattle.measured_orders.proofs.climb.climbed.Goals as goal

pub in_order-requires : goal.in_order-requires
in_order-requires g c =
    subst (λ l. IsOrder c.args.plan.now l) (sym c.deref-in-loop-try.ensures.value)
    (IsPermutation-trans (range_with_len 0 (length c.args.plan.now.jobs)) c.loop-try.from.items c.in_ok-next.next.items c.loop-try.invariant.0
    (subst (λ l. IsPermutation l c.in_ok-next.next.items) c.deref.ensures.value c.in_ok-next.ensures))

pub loop-try-preserved : goal.loop-try-preserved
loop-try-preserved g c =
    let moved : IsOrder c.args.plan.now c.in_ok-next.next.items =
    IsPermutation-trans (range_with_len 0 (length c.args.plan.now.jobs)) c.loop-try.from.items c.in_ok-next.next.items c.loop-try.invariant.0
    (subst (λ l. IsPermutation l c.in_ok-next.next.items) c.deref.ensures.value c.in_ok-next.ensures) in
    let made = (rw c.in-Some.is at c.in_ok-made.ensures) in (
      elim c.if-not-is_better.branch [
        | then-not-is_better w ↦ subst (λ v. IsOrder c.args.plan.now v.items) (sym w.from-is) moved
        | else-not-is_better w ↦ subst (λ v. IsOrder c.args.plan.now v.items) (sym w.from-is) c.loop-try.invariant.0
      ],
      elim c.if-is_better.branch [
        | then-is_better w ↦ subst (IsClimbed c.args.plan.now c.args.limit c.args.script.now c.args.start) (sym w.best-is)
            (goes_on c.args.plan.now c.args.limit c.args.script.now c.deref-in-loop-try.result.now c.args.start c.loop-try.best c.in-Some.found
            c.loop-try.invariant.1 (as_viewed true c.found.inside.measure c.in-Some.found.measure c.best.inside.measure c.loop-try.best.measure
            (ap (λ (t : TriedView). t.measure) c.found.view_is) (ap (λ (t : TriedView). t.measure) c.best.view_is)
            (sym c.is_better-in-loop-try.ensures ∙ w.if-is_better.true)) made)
        | else-is_better w ↦ subst (IsClimbed c.args.plan.now c.args.limit c.args.script.now c.args.start) (sym w.best-is) c.loop-try.invariant.1
      ],
    )
