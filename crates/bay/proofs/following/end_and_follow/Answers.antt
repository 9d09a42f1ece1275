use Rattle.std.proofs.Common.{sym, subst}
use Rattle.bay.specs.Cores.{core, IsTied}
use Rattle.bay.proofs.Tied.{ended_tied}
use Rattle.bay.proofs.following.end_and_follow.Goals as goal

pub follow-requires-clause-tied : goal.follow-requires-clause-tied
follow-requires-clause-tied c =
    let classes = c.args.classes.now in let x = core c.args.line.now c.args.book.now in
    subst (IsTied classes) (sym c.end_at.ensures) (ended_tied classes x c.args.place c.args.how c.args.now c.is_sound.ensures c.requires.inside c.requires.tied)
