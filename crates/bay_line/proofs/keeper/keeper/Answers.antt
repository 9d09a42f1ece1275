use Rattle.std.proofs.Common.{◌≡◌, ◌∙◌, ◌≤◌, length, false, sym, refl, subst, inl, inr, arith}
use Rattle.std.proofs.lemmas.Bool.{false≢true}
use Rattle.bay_line.specs.Wishes.{wish_at}
use Rattle.bay_line.specs.Keepers.{keeps}
use Rattle.bay_line.proofs.Kept.{below_more}
use Rattle.bay_line.proofs.Keepers.{is_kept_for, is_found}
use Rattle.bay_line.proofs.keeper.keeper.Goals as goal

pub returns-then-keeps : goal.returns-then-keeps
returns-then-keeps c =
    let a = c.args in let ws = c.args.wishes.now in let b = c.has_behind-behind.result in let k = c.loop-place.place in
    let found = is_kept_for a.most a.free ws a.ask a.instrument b k c.loop-place-test.true c.has_behind-behind.ensures (sym c.keeps.ensures ∙ c.if-keeps.true) in (
      k,
      found,
      refl,
      λ j below h.
          false≢true (sym (c.loop-place.invariant j below) ∙ is_found a.most a.free ws a.ask a.instrument b j c.requires.rises c.has_behind-behind.ensures h),
    )

pub loop-place-preserved : goal.loop-place-preserved
loop-place-preserved c = λ i below.
    let a = c.args in let ws = c.args.wishes.now in let b = c.has_behind-behind.result in
    elim (below_more i c.loop-place.place below) [
      | inl less ↦ c.loop-place.invariant i less
      | inr same ↦ subst (λ j. keeps a.most a.free a.ask a.instrument b (wish_at ws j) ≡ false) (sym same) (sym c.keeps.ensures ∙ c.if-keeps.false)
    ]

pub returns : goal.returns
returns c = λ i h.
    let a = c.args in let ws = c.args.wishes.now in let b = c.has_behind-behind.result in
    let all : length ws ≤ c.loop-place.place = c.loop-place-test.false in let inside = h.inside in
    false≢true (sym (c.loop-place.invariant i (omega (arith, all, inside)))
    ∙ is_found a.most a.free ws a.ask a.instrument b i c.requires.rises c.has_behind-behind.ensures h)
