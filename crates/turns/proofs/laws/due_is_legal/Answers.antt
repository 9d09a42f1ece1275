use Rattle.turns.proofs.DueMoves as lemmas
use Rattle.turns.proofs.laws.due_is_legal.Goals as goal

pub returns : goal.returns
returns c = lemmas.due_is_legal
