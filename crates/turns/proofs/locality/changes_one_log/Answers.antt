use Rattle.turns.proofs.Changed.{changes_one_log}
use Rattle.turns.proofs.locality.changes_one_log.Goals as goal

pub returns : goal.returns
returns c = changes_one_log
