use Rattle.bay_log.proofs.Cuts.{written}
use Rattle.bay_log.proofs.laws.lines_are_read.Goals as goal

pub returns : goal.returns
returns c = written
