use Rattle.std.proofs.Common.{false, sym, subst, inl, inr}
use Rattle.bay_line.specs.Turns.{SaysItsTurn}
use Rattle.bay_line.proofs.Kept.{below_more}
use Rattle.bay_line.proofs.first.first_other.Goals as goal

pub loop-place-preserved : goal.loop-place-preserved
loop-place-preserved c = λ i below.
    let a = c.args in let l = c.loop-place in
    let it = subst (SaysItsTurn false a.most a.in_use a.free a.wishes.now l.place) c.if-goes_then.false c.goes_then.ensures in
    elim (below_more i l.place below) [
      | inl less ↦ l.invariant i less
      | inr same ↦ subst (λ j. SaysItsTurn false a.most a.in_use a.free a.wishes.now j false) (sym same) it
    ]
