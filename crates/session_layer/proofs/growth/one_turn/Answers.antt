use Rattle.session_layer.proofs.Grows as grows
use Rattle.session_layer.proofs.growth.one_turn.Goals as goal

pub returns : goal.returns
returns c = grows.one_turn
