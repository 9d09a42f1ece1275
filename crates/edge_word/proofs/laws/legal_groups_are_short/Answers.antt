use Rattle.edge_word.proofs.GroupLengths.{legal_groups_are_short}
use Rattle.edge_word.proofs.laws.legal_groups_are_short.Goals as goal

pub returns : goal.returns
returns c = legal_groups_are_short
