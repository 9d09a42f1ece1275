use Rattle.std.proofs.Common.{◌∷◌, [], List, length, ap, arith, length-append}
use Rattle.bay_book.specs.declared.ask.Ask.{Ask}
use Rattle.bay_book.proofs.row.Row.push.Goals as goal

pub invariant_of-self-2 : goal.invariant_of-self-2
invariant_of-self-2 c =
    let i = c.self.inside in
    omega (arith, c.self.invariant, ap (λ (z : List Ask). length z) c.in_ok-push.ensures.items, length-append i.asks.items (c.args.ask ∷ []))
