use Rattle.turns.proofs.Calm as calm
use Rattle.turns.proofs.laws.calm_has_nothing_due.Goals as goal

pub returns : goal.returns
returns c = calm.calm_has_nothing_due
