use Rattle.std.proofs.Common.{◌≡◌, ◌<◌, false, sym, subst, arith}
use Rattle.std.proofs.lemmas.List.{get_or_default}
use Rattle.std.proofs.lemmas.List.Folds.{list_any_none}
use Rattle.bay_book.specs.declared.ask.Ask.{Ask}
use Rattle.bay_book.specs.Asks.{no_ask}
use Rattle.bay.specs.Turning.{owes}
use Rattle.bay.proofs.turning.anybody_owes.Goals as goal

pub returns : goal.returns
returns c =
    let l = c.loop-place in let asks = c.args.book.now.asks in
    sym (list_any_none owes asks (λ k d inside.
    let here : k < l.place = omega (arith, inside, c.loop-place-test.false, c.len-place-end.ensures) in
    subst (λ (a : Ask). owes a ≡ false) (get_or_default asks k no_ask d inside) (l.invariant k here)))
