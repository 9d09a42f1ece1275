use Rattle.longer_plans.proofs.Once.{taken_is_longer}
use Rattle.longer_plans.proofs.taken_is_longer.Goals as goal

pub returns : goal.returns
returns c = taken_is_longer
