use Rattle.bay_line.proofs.InOrder.{in_order_goes}
use Rattle.bay_line.proofs.line.Line.let_in.Goals as goal

pub invariant_of-self : goal.invariant_of-self
invariant_of-self c =
    let x = c.self.inside in
    in_order_goes x.limit x.most c.args.in_use c.args.free x.wishes.items c.go_in.result c.go_in.new.wishes.items c.go_in.ensures c.self.invariant
