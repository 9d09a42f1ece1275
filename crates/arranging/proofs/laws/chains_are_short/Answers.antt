use Rattle.arranging.proofs.Chains.{chains_are_short}
use Rattle.arranging.proofs.laws.chains_are_short.Goals as goal

pub returns : goal.returns
returns c = chains_are_short
