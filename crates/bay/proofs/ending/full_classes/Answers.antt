use Rattle.bay.specs.Cores.{core}
use Rattle.bay.proofs.Due.{full_is}
use Rattle.bay.proofs.ending.full_classes.Goals as goal

pub returns : goal.returns
returns c =
    full_is c.args.classes.now (core c.args.line.now c.args.book.now) c.classes-wanted.result c.free_classes.result c.classes-wanted.ensures c.free_classes.ensures
