use Rattle.turns.proofs.Knowing.{knows_what_it_saw}
use Rattle.turns.proofs.locality.knows_what_it_saw.Goals as goal

pub returns : goal.returns
returns c = knows_what_it_saw
