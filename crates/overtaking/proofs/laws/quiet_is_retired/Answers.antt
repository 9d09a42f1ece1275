use Rattle.overtaking.proofs.NeverStuck.{quiet_is_retired}
use Rattle.overtaking.proofs.laws.quiet_is_retired.Goals as goal

pub returns : goal.returns
returns c = quiet_is_retired
