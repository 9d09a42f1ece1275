use Rattle.legal_steps.proofs.ReachedLaws.{has_one_place}
use Rattle.legal_steps.proofs.laws.one_place.Goals as goal

pub returns : goal.returns
returns c = has_one_place
