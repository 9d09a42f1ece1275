use Rattle.rounds.proofs.Opened.{drives_from_opening}
use Rattle.rounds.proofs.laws.drives_from_opening.Goals as goal

pub returns : goal.returns
returns c = drives_from_opening
