use Rattle.std.proofs.Common.{subst, sym}
use Rattle.std.specs.List.Sorted.{IsPermutation}
use Rattle.std.proofs.lemmas.List.Sorted.{IsPermutation-trans}
use Rattle.measured_orders.proofs.moves.moved_by_chance.Goals.{then-below-eq0+in_ok-move_one-2, else-below-eq0}
use Rattle.measured_orders.proofs.moves.moved_by_chance.Goals as goal

pub returns : goal.returns
returns g c =
    let once = subst (λ l. IsPermutation l c.move_one.new.order.items) c.in_ok-next.ensures.items c.in_ok-move_one.ensures in
    elim c.if-below-eq0.branch [
      | then-below-eq0+in_ok-move_one-2 w ↦ subst (λ v. IsPermutation c.args.order.now v.items) (sym w.next-is)
          (IsPermutation-trans _ _ _ once w.in_ok-move_one-2.ensures)
      | else-below-eq0 w ↦ subst (λ v. IsPermutation c.args.order.now v.items) (sym w.next-is) once
    ]
