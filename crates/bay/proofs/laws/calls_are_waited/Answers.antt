use Rattle.bay.proofs.Waited.{calls_waited}
use Rattle.bay.proofs.laws.calls_are_waited.Goals as goal

pub returns : goal.returns
returns c = calls_waited c.next_is_let_in.ensures
