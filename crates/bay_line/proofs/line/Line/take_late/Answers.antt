use Rattle.std.proofs.Common.{sym, subst, List}
use Rattle.bay_line.specs.declared.wish.Wish.{Wish}
use Rattle.bay_line.specs.Lines.{IsInOrder}
use Rattle.bay_line.proofs.InOrder.{in_order_others}
use Rattle.bay_line.proofs.line.Line.take_late.Goals as goal

pub invariant_of-self : goal.invariant_of-self
invariant_of-self c =
    let x = c.self.inside in
    subst (λ (ws : List Wish). IsInOrder (record { wishes = ws; limit = x.limit; most = x.most })) (sym c.remove.ensures)
    (in_order_others x.limit x.most c.in-Some.ask x.wishes.items c.self.invariant)
