use Rattle.std.proofs.Common.{◌∙◌, sym}
use Rattle.bay.specs.Cores.{core}
use Rattle.bay.proofs.Nobody.{nobody_due}
use Rattle.bay.proofs.ending.next_due.Goals as goal

pub returns-then-end_nobody : goal.returns-then-end_nobody
returns-then-end_nobody c =
    let terms = c.end_nobody.ensures c.if-end_nobody.true in
    nobody_due c.args.classes.now c.args.terms c.args.now (core c.args.line.now c.args.book.now) (sym c.len.ensures.number ∙ c.if-len-eq0.true) terms.0 terms.1
    c.requires.tied
