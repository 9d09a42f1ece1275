use Rattle.std.proofs.Common.{sym, subst}
use Rattle.bay_book.specs.declared.ask.End.TheVariants.{Stopped}
use Rattle.bay.specs.Cores.{core, IsTied}
use Rattle.bay.proofs.Tied.{ended_tied}
use Rattle.bay.proofs.stopping.end_if_it_waits.Goals as goal

pub returns-in-Waits-clause-tied : goal.returns-in-Waits-clause-tied
returns-in-Waits-clause-tied c =
    let classes = c.args.classes.now in let x = core c.args.line.now c.args.book.now in
    subst (IsTied classes) (sym c.end_at.ensures) (ended_tied classes x c.args.place Stopped c.args.now c.is_sound.ensures c.requires.inside c.requires.tied)
