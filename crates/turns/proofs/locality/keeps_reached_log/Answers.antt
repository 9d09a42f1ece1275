use Rattle.turns.proofs.Reached.{keeps_reached_log}
use Rattle.turns.proofs.locality.keeps_reached_log.Goals as goal

pub returns : goal.returns
returns c = keeps_reached_log
