use Rattle.session_layer.proofs.EventTurns as turns
use Rattle.session_layer.proofs.laws.idle_is_idle.Goals as goal

pub returns : goal.returns
returns c = turns.idle_is_idle
