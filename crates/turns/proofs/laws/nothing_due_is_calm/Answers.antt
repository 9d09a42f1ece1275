use Rattle.turns.proofs.Calm as calm
use Rattle.turns.proofs.laws.nothing_due_is_calm.Goals as goal

pub returns : goal.returns
returns c = calm.nothing_due_is_calm
