use Rattle.turns.proofs.Calm as calm
use Rattle.turns.proofs.laws.stays_calm.Goals as goal

pub returns : goal.returns
returns c = calm.stays_calm
