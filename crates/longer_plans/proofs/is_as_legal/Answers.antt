use Rattle.longer_plans.proofs.Stays.{is_as_legal}
use Rattle.longer_plans.proofs.is_as_legal.Goals as goal

pub returns : goal.returns
returns c = is_as_legal
