use Rattle.workers.proofs.ClosedTurns as closed
use Rattle.workers.proofs.laws.turns_in_history.Goals as goal

pub returns : goal.returns
returns c = closed.turns_in_history
