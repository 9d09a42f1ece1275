use Rattle.std.proofs.Common.{List, subst}
use Rattle.bay_book.specs.declared.ask.Ask.{Ask}
use Rattle.bay_book.specs.Books.{BookView}
use Rattle.bay_book.specs.Moments.{limit_due_at}
use Rattle.bay_book.specs.Finding.{IsLeast}
use Rattle.bay_book.proofs.book.Book.limit_due.Goals as goal

pub returns : goal.returns
returns c =
    subst (λ (v : BookView). IsLeast (limit_due_at c.args.wanted c.args.full) v.asks c.limit_due.result) c.self.view_is
    (subst (λ (z : List Ask). IsLeast (limit_due_at c.args.wanted c.args.full) z c.limit_due.result) c.all.ensures c.limit_due.ensures)
