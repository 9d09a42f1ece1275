use Rattle.std.proofs.Common.{◌<◌, ◌+◌, ◌∙◌, List, length, drop, sym, ap, subst, arith, length-drop}
use Rattle.std.specs.List.{remove}
use Rattle.std.proofs.lemmas.List.{drop-drop}
use Rattle.bay_book.specs.declared.ask.Ask.{Ask}
use Rattle.bay_book.proofs.Settled.{drop_remove}
use Rattle.bay_book.proofs.row.Row.remove.Goals as goal

pub returns-then-self-ge-MOST : goal.returns-then-self-ge-MOST
returns-then-self-ge-MOST c =
    let i = c.self.inside in
    c.move_up.ensures ∙ (sym (drop-drop 1 i.start i.asks.items) ∙ (ap (λ (z : List Ask). drop 1 z) c.self.view_is ∙ ap (remove c.args.self.now) (sym c.if-place-eq0.true)))

pub returns-else-self-ge-MOST : goal.returns-else-self-ge-MOST
returns-else-self-ge-MOST c =
    let i = c.self.inside in
    sym (drop-drop 1 i.start i.asks.items) ∙ (ap (λ (z : List Ask). drop 1 z) c.self.view_is ∙ ap (remove c.args.self.now) (sym c.if-place-eq0.true))

pub returns-else-place-eq0 : goal.returns-else-place-eq0
returns-else-place-eq0 c =
    let i = c.self.inside in let place = c.args.place in
    let in_row : place < length (drop i.start i.asks.items) =
    subst (λ (z : List Ask). place < length z) (sym c.self.view_is) c.requires in
    let inside : i.start + place < length i.asks.items = omega (arith, in_row, length-drop i.start i.asks.items) in
    ap (drop i.start) c.remove.ensures.items
    ∙ (drop_remove i.start place i.asks.items inside ∙ ap (λ (z : List Ask). remove z place) c.self.view_is)
