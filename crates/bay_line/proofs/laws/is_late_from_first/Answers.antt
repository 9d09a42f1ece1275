use Rattle.bay_line.proofs.Deadlines as deadlines
use Rattle.bay_line.proofs.laws.is_late_from_first.Goals as goal

pub returns : goal.returns
returns c = deadlines.is_late_from_first
