use Rattle.turns.proofs.Idle as lemmas
use Rattle.turns.proofs.laws.idle_turn_is_calm.Goals as goal

pub returns : goal.returns
returns c = lemmas.idle_turn_is_calm
