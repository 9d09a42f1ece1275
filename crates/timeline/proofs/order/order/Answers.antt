use Rattle.std.proofs.Common.{ℕ, Bool, List, subst, sym, ◌∙◌}
use Rattle.std.specs.Prelude.{MatchOption}
use Rattle.timeline.specs.Orders.{IsOpen, AreStuck, AreOrdered}
use Rattle.timeline.proofs.OneByOne.{placed_start, placed_end}
use Rattle.timeline.proofs.order.order.Goals as goal
use Rattle.timeline.proofs.order.order.Goals.{in-Some, in-None}

pub place_all-requires-clause-start : goal.place_all-requires-clause-start
place_all-requires-clause-start g c =
    placed_start c.args.pairs.now c.in_ok-left.left.items c.in_ok-spans.spans.items c.requires
    (c.in_ok-left.ensures.items_if_clones_equal (λ copy e. e)) (sym c.in_ok-left.left.ok.0 ∙ c.in_ok-left.ensures.len) (sym c.in_ok-spans.spans.ok.0 ∙ c.in_ok-spans.ensures.len)

pub returns : goal.returns
returns g c =
    let pairs = c.args.pairs.now in
    let left = c.place_all.new.left.items in
    let answered = subst (λ l. MatchOption c.is_any.result ((y : ℕ) → ¬ IsOpen l y) (λ y. IsOpen l y)) c.deref.ensures.value c.is_any.ensures in
    elim c.match-is_any.branch [
      | in-Some w ↦ subst (λ r. MatchOption r ((x : List Bool) × AreStuck pairs x) (λ x. AreOrdered pairs x.0.items x.1)) (sym w.result-is) (
        left,
        record {
          some = w.in-Some.field-0;
          marked = subst (λ r. MatchOption r ((y : ℕ) → ¬ IsOpen left y) (λ y. IsOpen left y)) w.in-Some.is answered;
          behind = c.in_ok-columns.ensures.stuck;
        },
      )
      | in-None w ↦ subst (λ r. MatchOption r ((x : List Bool) × AreStuck pairs x) (λ x. AreOrdered pairs x.0.items x.1)) (sym w.result-is)
          (placed_end pairs left c.place_all.new.spans.items c.in_ok-columns.columns (subst (λ r. MatchOption r ((y : ℕ) → ¬ IsOpen left y) (λ y. IsOpen left y)) w.in-None.is answered) c.in_ok-columns.ensures.placed)
    ]
