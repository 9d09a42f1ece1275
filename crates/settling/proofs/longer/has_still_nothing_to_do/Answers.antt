use Rattle.settling.proofs.MarkedOn.{has_still_nothing_to_do}
use Rattle.settling.proofs.longer.has_still_nothing_to_do.Goals as goal

pub returns : goal.returns
returns c = has_still_nothing_to_do
