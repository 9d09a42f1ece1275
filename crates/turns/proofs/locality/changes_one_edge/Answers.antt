use Rattle.turns.proofs.Changed.{changes_one_edge}
use Rattle.turns.proofs.locality.changes_one_edge.Goals as goal

pub returns : goal.returns
returns c = changes_one_edge
