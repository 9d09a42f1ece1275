use Rattle.turns.proofs.Knowing.{counts_itself}
use Rattle.turns.proofs.locality.counts_itself.Goals as goal

pub returns : goal.returns
returns c = counts_itself
