use Rattle.live_lab.proofs.Counted.{few_before}
use Rattle.live_lab.proofs.laws.few_are_let_in_before.Goals as goal

pub returns : goal.returns
returns c = few_before
