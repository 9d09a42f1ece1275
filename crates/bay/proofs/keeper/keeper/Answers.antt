use Rattle.bay.specs.Cores.{core}
use Rattle.bay.proofs.Keepers.{keeps_it}
use Rattle.bay.proofs.keeper.keeper.Goals as goal

pub returns-in-Some-keeper : goal.returns-in-Some-keeper
returns-in-Some-keeper c =
    let a = c.args in
    keeps_it a.classes.now (core a.line.now a.book.now) a.number a.instrument c.free_classes.result c.in-Some-keeper.first c.ask_of.result c.requires.tied
    c.in_default.ensures c.free_classes.ensures c.in-Some-keeper.ensures c.ask_of.ensures
