use Rattle.bay.specs.Cores.{core}
use Rattle.bay.proofs.Due.{over_limit_is}
use Rattle.bay.proofs.ending.first_over_limit.Goals as goal

pub returns : goal.returns
returns c =
    over_limit_is c.args.classes.now c.args.now (core c.args.line.now c.args.book.now) c.wanted.result c.full_classes.result c.first_over_limit.result
    c.wanted.ensures c.full_classes.ensures c.first_over_limit.ensures
