use Rattle.std.proofs.Common.{subst}
use Rattle.bay_book.specs.Books.{BookView}
use Rattle.bay_book.specs.Finding.{IsInUse}
use Rattle.bay_book.proofs.Counted.{sure_in_use}
use Rattle.bay_book.proofs.book.Book.in_use.Goals as goal

pub returns-then-self : goal.returns-then-self
returns-then-self c =
    let i = c.self.inside in
    subst (λ (v : BookView). IsInUse v.asks i.used) c.self.view_is (sure_in_use i.asks i.taken i.used i.sure c.self.invariant.2 c.if-self.true)
