use Rattle.std.proofs.Common.{List, subst}
use Rattle.bay_book.specs.declared.ask.Ask.{Ask}
use Rattle.bay_book.specs.Books.{BookView}
use Rattle.bay_book.specs.Moments.{due_at}
use Rattle.bay_book.specs.Finding.{IsLeast}
use Rattle.bay_book.proofs.book.Book.due.Goals as goal

pub returns : goal.returns
returns c =
    subst (λ (v : BookView). IsLeast (due_at c.args.grace v.durable c.args.disk) v.asks c.due.result) c.self.view_is
    (subst (λ (z : List Ask). IsLeast (due_at c.args.grace c.self.inside.durable c.args.disk) z c.due.result) c.all.ensures c.due.ensures)
