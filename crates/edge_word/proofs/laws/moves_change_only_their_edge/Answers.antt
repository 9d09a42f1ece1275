use Rattle.edge_word.proofs.MoveFrame.{moves_change_only_their_edge}
use Rattle.edge_word.proofs.laws.moves_change_only_their_edge.Goals as goal

pub returns : goal.returns
returns c = moves_change_only_their_edge
