use Rattle.bay_log.proofs.Cuts.{cut}
use Rattle.bay_log.proofs.laws.cut_lines_are_read.Goals as goal

pub returns : goal.returns
returns c = cut
