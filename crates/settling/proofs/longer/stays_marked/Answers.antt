use Rattle.settling.proofs.MarkedOn.{stays_marked}
use Rattle.settling.proofs.longer.stays_marked.Goals as goal

pub returns : goal.returns
returns c = stays_marked
