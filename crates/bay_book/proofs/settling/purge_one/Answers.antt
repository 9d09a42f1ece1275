use Rattle.std.proofs.Common.{◌≡◌, ◌<◌, List, length, true, false, sym, ap, ◌∙◌, subst, arith}
use Rattle.bay_book.specs.declared.ask.Ask.{Ask}
use Rattle.bay_book.specs.Asks.{ask_at, is_done}
use Rattle.bay_book.specs.Settled.{AreWithin}
use Rattle.bay_book.proofs.Settled.{one_purged, none_done, one_gone}
use Rattle.bay_book.proofs.settling.purge_one.Goals as goal

pub at-requires : goal.at-requires
at-requires c = omega (arith, c.requires.one, c.requires.within.few)

pub remove-requires : goal.remove-requires
remove-requires c = omega (arith, c.requires.one, c.requires.within.few)

pub returns-then-is_done-clause-items : goal.returns-then-is_done-clause-items
returns-then-is_done-clause-items c =
    let asks = c.args.asks.now in let place = c.args.place in
    let inside : place < length asks = omega (arith, c.requires.one, c.requires.within.few) in
    let done : is_done (ask_at asks place) ≡ true = ap is_done (sym c.at.ensures) ∙ (sym c.is_done.ensures ∙ c.if-is_done.true) in
    c.remove.ensures ∙ one_purged asks place inside (subst (AreWithin asks place) c.requires.one c.requires.within) done

pub returns-then-is_done-clause-within : goal.returns-then-is_done-clause-within
returns-then-is_done-clause-within c =
    let asks = c.args.asks.now in let place = c.args.place in
    let inside : place < length asks = omega (arith, c.requires.one, c.requires.within.few) in
    subst (λ (z : List Ask). AreWithin z 0 0) (sym c.remove.ensures) (one_gone asks place inside (subst (AreWithin asks place) c.requires.one c.requires.within))

pub returns-else-is_done-clause-items : goal.returns-else-is_done-clause-items
returns-else-is_done-clause-items c =
    let asks = c.args.asks.now in let place = c.args.place in
    let done : is_done (ask_at asks place) ≡ false = ap is_done (sym c.at.ensures) ∙ (sym c.is_done.ensures ∙ c.if-is_done.false) in
    none_done asks place (subst (AreWithin asks place) c.requires.one c.requires.within) done
