use Rattle.bay.proofs.Calls.{who_waits}
use Rattle.bay.proofs.laws.who_waits_waits_on.Goals as goal

pub returns : goal.returns
returns c = who_waits
