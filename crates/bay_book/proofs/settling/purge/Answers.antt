use Rattle.std.proofs.Common.{List, subst}
use Rattle.bay_book.specs.declared.ask.Ask.{Ask}
use Rattle.bay_book.specs.Settled.{AreWithin}
use Rattle.bay_book.proofs.Settled.{none_purged}
use Rattle.bay_book.proofs.settling.purge.Goals as goal

pub returns-then-end-first-clause-items : goal.returns-then-end-first-clause-items
returns-then-end-first-clause-items c =
    none_purged c.args.asks.now c.first_open-first.result c.last_open-end.result
    (subst (λ (z : List Ask). AreWithin z c.first_open-first.result c.last_open-end.result) c.all-2.ensures c.last_open-end.ensures) c.if-end-first.true
