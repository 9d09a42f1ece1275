use Rattle.journal_texts.proofs.Pieces.{texts_are_pieces}
use Rattle.journal_texts.proofs.laws.texts_are_pieces.Goals as goal

pub returns : goal.returns
returns c = texts_are_pieces
