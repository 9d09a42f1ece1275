use Rattle.std.proofs.Common.{sym}
use Rattle.bay.specs.Cores.{core}
use Rattle.bay.proofs.Next.{next_is}
use Rattle.bay.proofs.moments.next_moment.Goals as goal

pub returns : goal.returns
returns c =
    next_is c.args.classes.now c.args.terms (core c.args.line.now c.args.book.now) c.wanted-wanted.result c.full_classes-full.result c.due.result c.limit_due.result
    c.sooner.result c.wanted-wanted.ensures c.full_classes-full.ensures c.due.ensures c.limit_due.ensures (sym c.sooner.ensures)
