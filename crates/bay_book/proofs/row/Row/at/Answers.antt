use Rattle.std.proofs.Common.{◌≡◌, ◌<◌, ◌+◌, List, length, drop, sym, ◌∙◌, subst, arith, length-drop}
use Rattle.std.proofs.lemmas.List.{get_or_read, get_or-drop}
use Rattle.bay_book.specs.declared.ask.Ask.{Ask}
use Rattle.bay_book.specs.Asks.{no_ask, ask_at}
use Rattle.bay_book.proofs.row.Row.at.Goals as goal

pub index-requires : goal.index-requires
index-requires c =
    let i = c.self.inside in let place = c.args.place in
    let inside : place < length (drop i.start i.asks.items) = subst (λ (z : List Ask). place < length z) (sym c.self.view_is) c.requires in
    omega (arith, inside, length-drop i.start i.asks.items)

pub returns : goal.returns
returns c =
    let i = c.self.inside in let place = c.args.place in
    let inside : place < length (drop i.start i.asks.items) = subst (λ (z : List Ask). place < length z) (sym c.self.view_is) c.requires in
    let within : i.start + place < length i.asks.items = omega (arith, inside, length-drop i.start i.asks.items) in
    let here : c.index.result.now ≡ ask_at i.asks.items (i.start + place) =
    get_or_read i.asks.items (i.start + place) c.index.result.now within c.index.ensures no_ask in
    subst (λ (z : List Ask). c.index.result.now ≡ ask_at z place) c.self.view_is (here ∙ sym (get_or-drop i.start i.asks.items place no_ask))
