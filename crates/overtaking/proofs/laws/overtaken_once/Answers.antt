use Rattle.overtaking.proofs.OvertakenOnce.{overtaken_once}
use Rattle.overtaking.proofs.laws.overtaken_once.Goals as goal

pub returns : goal.returns
returns c = overtaken_once
