use Rattle.longer_plans.proofs.States.{stays_an_opening}
use Rattle.longer_plans.proofs.stays_an_opening.Goals as goal

pub returns : goal.returns
returns c = stays_an_opening
