use Rattle.turns.proofs.Reached.{has_one_reaching}
use Rattle.turns.proofs.locality.has_one_reaching.Goals as goal

pub returns : goal.returns
returns c = has_one_reaching
