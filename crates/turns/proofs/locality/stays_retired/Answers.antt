use Rattle.turns.proofs.Retired.{stays_retired}
use Rattle.turns.proofs.locality.stays_retired.Goals as goal

pub returns : goal.returns
returns c = stays_retired
