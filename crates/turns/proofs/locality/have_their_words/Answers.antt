use Rattle.turns.proofs.Whole.{have_their_words}
use Rattle.turns.proofs.locality.have_their_words.Goals as goal

pub returns : goal.returns
returns c = have_their_words
