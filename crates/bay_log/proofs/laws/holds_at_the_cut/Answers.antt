use Rattle.bay_log.proofs.Holding.{holds}
use Rattle.bay_log.proofs.laws.holds_at_the_cut.Goals as goal

pub returns : goal.returns
returns c = holds
