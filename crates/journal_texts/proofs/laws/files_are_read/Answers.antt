use Rattle.journal_texts.proofs.Read.{files_are_read}
use Rattle.journal_texts.proofs.laws.files_are_read.Goals as goal

pub returns : goal.returns
returns c = files_are_read c.steps_give_events.ensures
