use Rattle.bay_log.proofs.Growing.{grows}
use Rattle.bay_log.proofs.laws.grows_by_a_line.Goals as goal

pub returns : goal.returns
returns c = grows
