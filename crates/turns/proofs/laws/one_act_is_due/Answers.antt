use Rattle.turns.proofs.Firsts as lemmas
use Rattle.turns.proofs.laws.one_act_is_due.Goals as goal

pub returns : goal.returns
returns c = lemmas.one_act_is_due
