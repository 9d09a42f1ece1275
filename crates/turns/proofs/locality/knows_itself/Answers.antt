use Rattle.turns.proofs.Knowing.{knows_itself}
use Rattle.turns.proofs.locality.knows_itself.Goals as goal

pub returns : goal.returns
returns c = knows_itself
