use Rattle.turns.proofs.Calm as calm
use Rattle.turns.proofs.laws.one_group_is_due.Goals as goal

pub returns : goal.returns
returns c = calm.one_group_is_due
