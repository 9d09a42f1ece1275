use Rattle.std.proofs.Common.{◌∙◌, sym, subst, arith}
use Rattle.bay_book.specs.declared.ask.Ask.{Ask}
use Rattle.bay_book.specs.Asks.{no_ask}
use Rattle.bay.specs.Members.{Has}
use Rattle.bay.proofs.Members.{has_at}
use Rattle.bay.proofs.Keepers.{nobody_holds}
use Rattle.bay.proofs.keeper.holder.Goals as goal

pub returns-then-holds_it : goal.returns-then-holds_it
returns-then-holds_it c =
    let asks = c.args.book.now.asks in let l = c.loop-place in (
      subst (λ (a : Ask). Has asks a) (sym c.ask_at-ask.ensures) (has_at asks l.place no_ask (omega (arith, c.loop-place-test.true, l.auto.place-end, c.len-place-end.ensures))),
      sym c.holds_it.ensures ∙ c.if-holds_it.true,
    )

pub returns : goal.returns
returns c = nobody_holds c.args.book.now.asks c.args.instrument
    (λ k inside. c.loop-place.invariant k (omega (arith, inside, c.loop-place-test.false, c.len-place-end.ensures)))
