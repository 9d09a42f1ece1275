use Rattle.std.proofs.Common.{List, set, ap, ◌∙◌}
use Rattle.std.proofs.lemmas.List.{drop-set-add}
use Rattle.bay_book.specs.declared.ask.Ask.{Ask}
use Rattle.bay_book.proofs.row.Row.set.Goals as goal

pub returns : goal.returns
returns c =
    let i = c.self.inside in let place = c.args.place in let ask = c.args.ask in
    drop-set-add i.start i.asks.items place ask ∙ ap (λ (z : List Ask). set z place ask) c.self.view_is
