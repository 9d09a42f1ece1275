use Rattle.bay_log.proofs.Durable.{durable_holds}
use Rattle.bay_log.proofs.laws.durable_holds_are_read.Goals as goal

pub returns : goal.returns
returns c = durable_holds
