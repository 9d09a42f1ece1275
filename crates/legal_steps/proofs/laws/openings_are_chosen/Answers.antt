use Rattle.legal_steps.proofs.ReachedLaws.{openings_are_chosen}
use Rattle.legal_steps.proofs.laws.openings_are_chosen.Goals as goal

pub returns : goal.returns
returns c = openings_are_chosen
