use Rattle.overtaking.proofs.NeverStuck.{never_stuck}
use Rattle.overtaking.proofs.laws.never_stuck.Goals as goal

pub returns : goal.returns
returns c = never_stuck
