use Rattle.legal_moves.proofs.LawProofs.{bottles_alone}
use Rattle.legal_moves.proofs.laws.bottles_alone.Goals as goal

pub returns : goal.returns
returns c = bottles_alone
