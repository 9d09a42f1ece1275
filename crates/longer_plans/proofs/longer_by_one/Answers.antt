use Rattle.longer_plans.proofs.Once.{longer_by_one}
use Rattle.longer_plans.proofs.longer_by_one.Goals as goal

pub returns : goal.returns
returns c = longer_by_one
