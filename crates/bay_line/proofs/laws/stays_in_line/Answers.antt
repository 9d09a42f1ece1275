use Rattle.bay_line.proofs.InLine as in_line
use Rattle.bay_line.proofs.laws.stays_in_line.Goals as goal

pub returns : goal.returns
returns c = in_line.stays_in_line
