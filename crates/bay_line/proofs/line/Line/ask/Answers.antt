use Rattle.std.proofs.Common.{◌≤◌, ◌-◌, length, sym, subst, List, arith}
use Rattle.bay_line.specs.declared.wish.Wish.{Wish}
use Rattle.bay_line.specs.Lines.{LineView, IsInOrder, Below}
use Rattle.bay_line.proofs.InOrder.{in_order_more}
use Rattle.bay_line.proofs.line.Line.ask.Goals.{in-Ok, in-Err}
use Rattle.bay_line.proofs.line.Line.ask.Goals as goal

pub invariant_of-self : goal.invariant_of-self
invariant_of-self c =
    let x = c.self.inside in
    let P : List Wish → Type 0 = λ ws. IsInOrder (record { wishes = ws; limit = x.limit; most = x.most }) in
    let below : Below c.args.ask x.wishes.items = subst (λ (v : LineView). Below c.args.ask v.wishes) (sym c.self.view_is) c.requires in
    let room : length c.args.sets.now ≤ x.limit - length x.wishes.items = omega (arith, c.if-self-len.false, c.len.ensures) in
    elim c.match-append.branch [
      | in-Ok w ↦ subst P (sym w.in-Ok.ensures.appends)
          (in_order_more x.limit x.most c.args.ask x.wishes.items c.args.sets.now c.args.classes c.args.deadline c.self.invariant below room)
      | in-Err w ↦ subst P (sym w.in-Err.ensures.refused) c.self.invariant
    ]
