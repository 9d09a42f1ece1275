use Rattle.bay_log.proofs.Cuts.{durable}
use Rattle.bay_log.proofs.laws.durable_lines_are_read.Goals as goal

pub returns : goal.returns
returns c = durable
