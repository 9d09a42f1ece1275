use Rattle.std.proofs.Common.{◌≡◌, ◌+◌, ℕ, List, Some, arith, length, below_more, sym, ap, ◌∙◌, subst}
use Rattle.std.specs.List.{slice_get, Contains}
use Rattle.std.proofs.lemmas.Bool.{eq-eqb, eqb-true, false≢true}
use Rattle.std.proofs.lemmas.List.{get_or_default, get_or_read}
use Rattle.std.proofs.lemmas.Option.{slice_get-get_or}
use Rattle.lab_plan.proofs.bottles.Bottles.place_of.Goals as goal

pub returns-then-eq-clause-found : goal.returns-then-eq-clause-found
returns-then-eq-clause-found g c =
    let items = c.deref-other-items.result.now in
    let k = c.loop-other.other-index in
    let read = get_or_read items k c.other-item.result c.loop-other-test.true c.other-item.is 0 in
    let same = eqb-true c.other-item.result c.args.instrument (sym c.eq.ensures ∙ c.if-eq.true) in
    subst (λ (l : List ℕ). slice_get l c.loop-other.next ≡ Some c.args.instrument) (c.deref-other-items.ensures.value ∙ c.self.view_is)
    (ap (slice_get items) c.loop-other.invariant.counted ∙ slice_get-get_or items k 0 c.loop-other-test.true ∙ ap (λ n. Some n) (sym read ∙ same))

pub overflow_add-next : goal.overflow_add-next
overflow_add-next g c =
    let long = ap (λ (l : List ℕ). length l) (c.deref-other-items.ensures.value ∙ c.self.view_is) in
    omega (arith, c.loop-other.invariant.counted, c.loop-other-test.true, c.requires, long)

pub loop-other-preserved : goal.loop-other-preserved
loop-other-preserved g c =
    let read = get_or_read c.deref-other-items.result.now c.loop-other.other-index c.other-item.result c.loop-other-test.true c.other-item.is 0 in
    record {
      counted = ap (λ n. n + 1) c.loop-other.invariant.counted;
      not_yet = below_more _ _ c.loop-other.invariant.not_yet
          (λ same. false≢true (sym c.if-eq.false ∙ (c.eq.ensures ∙ eq-eqb c.other-item.result c.args.instrument (read ∙ same))));
    }

pub returns-clause-none : goal.returns-clause-none
returns-clause-none g c found =
    let items = c.deref-other-items.result.now in
    let there = subst (λ (l : List ℕ). Contains l c.args.instrument) (sym (c.deref-other-items.ensures.value ∙ c.self.view_is)) found in
    let within = there.1 in
    c.loop-other.invariant.not_yet there.0 (omega (arith, within, c.loop-other-test.false)) (get_or_default items there.0 0 c.args.instrument within ∙ there.2)
