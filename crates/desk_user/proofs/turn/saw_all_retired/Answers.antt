use Rattle.std.proofs.Common.{inl, inr, refl, arith}
use Rattle.desk_user.proofs.Owned.{took_glanced}
use Rattle.desk_user.proofs.turn.saw_all_retired.Goals as goal

pub returns-then-retired-clause-took : goal.returns-then-retired-clause-took
returns-then-retired-clause-took g c =
    (0, (omega arith), took_glanced c.args.desk.now c.all_retired.new.desk c.all_retired.result c.all_retired.ensures)

pub returns-then-retired-clause-looked : goal.returns-then-retired-clause-looked
returns-then-retired-clause-looked g c = inr (c.retired.ensures.0 c.if-retired.true, c.all_retired.ensures)

pub returns-else-retired-clause-looked : goal.returns-else-retired-clause-looked
returns-else-retired-clause-looked g c = inl ((λ at. let yes = c.retired.ensures.1 at in cc), c.if-retired.false, refl)
