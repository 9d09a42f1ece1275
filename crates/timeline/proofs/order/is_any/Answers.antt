use Rattle.timeline.proofs.Marked.{none_marked}
use Rattle.timeline.proofs.order.is_any.Goals as goal

pub returns : goal.returns
returns c = none_marked c.args.left.now c.loop-slot.slot c.loop-slot-test.false c.loop-slot.invariant
