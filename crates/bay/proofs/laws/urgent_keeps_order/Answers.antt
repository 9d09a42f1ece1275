use Rattle.bay.proofs.Waited.{urgent_keeps_order}
use Rattle.bay.proofs.laws.urgent_keeps_order.Goals as goal

pub returns : goal.returns
returns c = urgent_keeps_order c.next_is_let_in.ensures
