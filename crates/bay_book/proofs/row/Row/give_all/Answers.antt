use Rattle.std.proofs.Common.{◌∙◌, drop, map, ap}
use Rattle.std.proofs.lemmas.List.{with_items_is, drop-map}
use Rattle.bay_book.specs.Asks.{given}
use Rattle.bay_book.proofs.row.Row.give_all.Goals as goal

pub returns : goal.returns
returns c =
    let i = c.self.inside in let at = c.args.at in
    let items = with_items_is i.asks c.give_all.new.asks (c.give_all.auto.asks ∙ c.deref_mut.ensures.len) in
    let same = items ∙ (c.give_all.ensures ∙ ap (map (given at)) c.deref_mut.ensures.value) in
    ap (drop i.start) same ∙ (drop-map (given at) i.start i.asks.items ∙ ap (map (given at)) c.self.view_is)
