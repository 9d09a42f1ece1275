use Rattle.std.proofs.Common.{sym, subst, List}
use Rattle.bay_line.specs.declared.wish.Wish.{Wish}
use Rattle.bay_line.specs.Lines.{IsInOrder}
use Rattle.bay_line.proofs.KeptOrder.{in_order_kept}
use Rattle.bay_line.proofs.line.Line.keep_order.Goals as goal

pub invariant_of-self : goal.invariant_of-self
invariant_of-self c =
    let x = c.self.inside in
    subst (λ (ws : List Wish). IsInOrder (record { wishes = ws; limit = x.limit; most = x.most })) (sym c.keep_order.ensures)
    (in_order_kept (record { wishes = x.wishes.items; limit = x.limit; most = x.most }) c.self.invariant)
