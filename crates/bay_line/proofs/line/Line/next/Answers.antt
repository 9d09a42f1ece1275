use Rattle.std.proofs.Common.{subst, List}
use Rattle.bay_line.specs.declared.wish.Wish.{Wish}
use Rattle.bay_line.specs.Lines.{LineView, IsChosen}
use Rattle.bay_line.proofs.line.Line.next.Goals as goal

pub returns : goal.returns
returns c =
    let a = c.args in let x = c.self.inside in
    subst (λ (v : LineView). IsChosen v.most a.in_use a.free v.wishes c.choose.result) c.self.view_is
    (subst (λ (ws : List Wish). IsChosen x.most a.in_use a.free ws c.choose.result) c.deref.ensures.value c.choose.ensures)
