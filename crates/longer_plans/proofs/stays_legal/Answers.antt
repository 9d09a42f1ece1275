use Rattle.longer_plans.proofs.Stays.{stays_legal}
use Rattle.longer_plans.proofs.stays_legal.Goals as goal

pub returns : goal.returns
returns c = stays_legal
