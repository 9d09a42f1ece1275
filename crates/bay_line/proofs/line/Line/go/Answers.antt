use Rattle.std.proofs.Common.{sym, subst, List}
use Rattle.bay_line.specs.declared.wish.Wish.{Wish}
use Rattle.bay_line.specs.Lines.{IsInOrder}
use Rattle.bay_line.proofs.InOrder.{in_order_after}
use Rattle.bay_line.proofs.line.Line.go.Goals as goal

pub invariant_of-self : goal.invariant_of-self
invariant_of-self c =
    let x = c.self.inside in let s = c.args.seated in
    subst (λ (vs : List Wish). IsInOrder (record { wishes = vs; limit = x.limit; most = x.most })) (sym c.go_at.ensures)
    (in_order_after x.limit x.most c.args.free s.needs s.ask x.wishes.items c.self.invariant)
