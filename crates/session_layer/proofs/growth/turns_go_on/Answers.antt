use Rattle.session_layer.proofs.Grows as grows
use Rattle.session_layer.proofs.growth.turns_go_on.Goals as goal

pub returns : goal.returns
returns c = grows.turns_go_on
