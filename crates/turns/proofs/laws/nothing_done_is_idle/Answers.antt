use Rattle.turns.proofs.Idle as lemmas
use Rattle.turns.proofs.laws.nothing_done_is_idle.Goals as goal

pub returns : goal.returns
returns c = lemmas.nothing_done_is_idle
