use Rattle.timeline.proofs.Marked.{stuck_of}
use Rattle.timeline.proofs.order.are_stuck.Goals as goal

pub returns : goal.returns
returns g c =
    stuck_of c.args.pairs.now c.args.marks.now c.is_any.result c.in_ok-ready.field-0 c.is_none.result c.is_none-2.result c.is_any.ensures c.is_none.ensures
    c.if-is_none.false c.in_ok-ready.ensures.none c.is_none-2.ensures
