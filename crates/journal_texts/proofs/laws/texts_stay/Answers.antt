use Rattle.journal_texts.proofs.Parts.{texts_stay}
use Rattle.journal_texts.proofs.laws.texts_stay.Goals as goal

pub returns : goal.returns
returns c = texts_stay
