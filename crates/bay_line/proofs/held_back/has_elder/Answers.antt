use Rattle.std.proofs.Common.{◌≡◌, ◌∙◌, false, sym, subst, inl, inr}
use Rattle.bay_line.specs.Wishes.{wish_at}
use Rattle.bay_line.specs.Turns.{is_elder}
use Rattle.bay_line.proofs.Kept.{below_more}
use Rattle.bay_line.proofs.held_back.has_elder.Goals as goal

pub loop-other-preserved : goal.loop-other-preserved
loop-other-preserved c = λ j below.
    let a = c.args in let ws = c.args.wishes.now in
    elim (below_more j c.loop-other.other below) [
      | inl less ↦ c.loop-other.invariant j less
      | inr same ↦ subst (λ i. is_elder a.most a.free (wish_at ws a.place) (wish_at ws i) ≡ false) (sym same) (sym c.is_elder.ensures ∙ c.if-is_elder.false)
    ]
