use Rattle.bay_line.proofs.Within as within
use Rattle.bay_line.proofs.laws.what_was_asked_stays.Goals as goal

pub returns : goal.returns
returns c = within.what_was_asked_stays
