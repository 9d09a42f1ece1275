use Rattle.std.proofs.Common.{◌≡◌, ◌<◌, ◌==◌, not, get_or, false, sym, subst, arith}
use Rattle.std.proofs.lemmas.List.{get_or_default}
use Rattle.std.proofs.lemmas.List.Folds.{list_any_none}
use Rattle.bay_book.specs.declared.ask.Ask.{Ask}
use Rattle.bay_book.specs.Asks.{no_ask, is_over}
use Rattle.bay.specs.Requests.{is_of}
use Rattle.bay.proofs.Nobody.{nobodys}
use Rattle.bay.proofs.asking.has_owner.Goals as goal

pub returns-then-owner-eq0 : goal.returns-then-owner-eq0
returns-then-owner-eq0 c =
    let asks = c.args.book.now.asks in let owner = c.args.owner in
    sym (list_any_none (is_of owner) asks (λ k d inside.
    let a : Ask = get_or asks k d in nobodys (not (is_over a.stage)) (a.owner == owner) owner c.if-owner-eq0.true))

pub returns : goal.returns
returns c =
    let l = c.loop-place in let asks = c.args.book.now.asks in let p = is_of c.args.owner in
    sym (list_any_none p asks (λ k d inside.
    let here : k < l.place = omega (arith, inside, c.loop-place-test.false, c.len-place-end.ensures) in
    subst (λ (a : Ask). p a ≡ false) (get_or_default asks k no_ask d inside) (l.invariant k here)))
