use Rattle.turns.proofs.Parts.{is_legal_in_parts}
use Rattle.turns.proofs.locality.is_legal_in_parts.Goals as goal

pub returns : goal.returns
returns c = is_legal_in_parts
