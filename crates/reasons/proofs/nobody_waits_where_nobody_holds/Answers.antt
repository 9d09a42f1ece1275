use Rattle.reasons.proofs.LawProofs.{nobody_waits_where_nobody_holds}
use Rattle.reasons.proofs.nobody_waits_where_nobody_holds.Goals as goal

pub returns : goal.returns
returns c = nobody_waits_where_nobody_holds
