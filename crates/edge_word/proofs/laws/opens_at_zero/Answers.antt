use Rattle.edge_word.proofs.GroupLengths.{opens_at_zero}
use Rattle.edge_word.proofs.laws.opens_at_zero.Goals as goal

pub returns : goal.returns
returns c = opens_at_zero
