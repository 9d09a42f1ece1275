use Rattle.bay_log.proofs.Handed.{beginnings}
use Rattle.bay_log.proofs.laws.files_are_beginnings.Goals as goal

pub returns : goal.returns
returns c = beginnings
