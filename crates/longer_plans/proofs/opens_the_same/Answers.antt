use Rattle.longer_plans.proofs.States.{opens_the_same}
use Rattle.longer_plans.proofs.opens_the_same.Goals as goal

pub returns : goal.returns
returns c = opens_the_same
