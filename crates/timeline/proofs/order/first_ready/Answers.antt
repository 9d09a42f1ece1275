use borrow.Author.Count.{below_more}
use Rattle.timeline.specs.Orders.{IsOpen}
use Rattle.timeline.proofs.Marked.{each_marked}
use Rattle.timeline.proofs.order.first_ready.Goals as goal

pub loop-slot-preserved : goal.loop-slot-preserved
loop-slot-preserved c =
    below_more (λ k. IsOpen c.args.left.now k → IsOpen c.args.behind.now k) c.loop-slot.slot c.loop-slot.invariant (c.is_ready.ensures.no c.if-is_ready.false)

pub returns-clause-none : goal.returns-clause-none
returns-clause-none c _ = each_marked c.args.left.now c.loop-slot.slot (IsOpen c.args.behind.now) c.loop-slot-test.false c.loop-slot.invariant
