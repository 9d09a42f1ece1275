use Rattle.bay_line.proofs.AllOf.{one_more}
use Rattle.bay_line.proofs.wanting.wanted.Goals as goal

pub loop-place-preserved : goal.loop-place-preserved
loop-place-preserved c = one_more (λ w. w.needs) c.args.wishes.now c.loop-place.place c.loop-place.all c.loop-place.invariant
