use Rattle.std.proofs.Common.{◌≡◌, ◌-◌, List, length, subst, arith, length-drop}
use Rattle.bay_book.specs.declared.ask.Ask.{Ask}
use Rattle.bay_book.proofs.row.Row.len.Goals as goal

pub returns : goal.returns
returns c =
    let i = c.self.inside in
    subst (λ (z : List Ask). c.len.result - i.start ≡ length z) c.self.view_is (omega (arith, c.len.ensures, length-drop i.start i.asks.items))
