use Rattle.arranging.proofs.Arrangements.{arranged_chains_are_short}
use Rattle.arranging.proofs.laws.arranged_chains_are_short.Goals as goal

pub returns : goal.returns
returns c = arranged_chains_are_short
