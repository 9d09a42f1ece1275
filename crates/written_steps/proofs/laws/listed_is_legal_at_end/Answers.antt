use Rattle.written_steps.proofs.Pasted.{legal_at_end}
use Rattle.written_steps.proofs.laws.listed_is_legal_at_end.Goals as goal

pub returns : goal.returns
returns c = legal_at_end
