use Rattle.session_layer.proofs.LostTurns as turns
use Rattle.session_layer.proofs.laws.lost_did_nothing.Goals as goal

pub returns : goal.returns
returns c = turns.lost_did_nothing
