use Rattle.written_steps.proofs.Pasted.{legal_in_place}
use Rattle.written_steps.proofs.laws.listed_is_legal_in_place.Goals as goal

pub returns : goal.returns
returns c = legal_in_place
