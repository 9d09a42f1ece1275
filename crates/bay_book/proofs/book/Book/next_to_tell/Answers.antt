use Rattle.std.proofs.Common.{List, subst}
use Rattle.bay_book.specs.declared.ask.Ask.{Ask}
use Rattle.bay_book.specs.Books.{BookView}
use Rattle.bay_book.specs.Telling.{IsNextToTell}
use Rattle.bay_book.proofs.book.Book.next_to_tell.Goals as goal

pub returns : goal.returns
returns c =
    let x = c.self.inside in
    subst (λ (v : BookView). IsNextToTell v.asks v.durable c.next_to_tell.result) c.self.view_is
    (subst (λ (z : List Ask). IsNextToTell z x.durable c.next_to_tell.result) c.all.ensures c.next_to_tell.ensures)
