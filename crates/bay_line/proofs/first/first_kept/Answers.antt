use Rattle.std.proofs.Common.{subst}
use Rattle.bay_line.specs.Turns.{SaysItsTurn}
use Rattle.std.proofs.Common.{true}
use Rattle.bay_line.proofs.Kept.{one_looked_at, none_looked_at}
use Rattle.bay_line.proofs.first.first_kept.Goals as goal

pub loop-place-init : goal.loop-place-init
loop-place-init c = none_looked_at c.args.most c.args.in_use c.args.free c.args.wishes.now

pub loop-place-preserved : goal.loop-place-preserved
loop-place-preserved c =
    let a = c.args in let l = c.loop-place in
    one_looked_at a.most a.in_use a.free a.wishes.now l.place l.kept c.kept_with-kept.result l.invariant c.kept_with-kept.ensures
    (subst (SaysItsTurn true a.most a.in_use a.free a.wishes.now l.place) c.if-goes_first.false c.goes_first.ensures)
