use Rattle.bay.proofs.Whole as whole
use Rattle.bay.proofs.laws.stays_whole.Goals as goal

pub returns : goal.returns
returns c = whole.stays_whole
