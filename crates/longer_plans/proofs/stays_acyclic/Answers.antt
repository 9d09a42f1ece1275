use Rattle.longer_plans.proofs.States.{stays_acyclic}
use Rattle.longer_plans.proofs.stays_acyclic.Goals as goal

pub returns : goal.returns
returns c = stays_acyclic
