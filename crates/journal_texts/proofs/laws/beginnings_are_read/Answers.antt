use Rattle.journal_texts.proofs.Beginnings.{beginnings_are_read}
use Rattle.journal_texts.proofs.laws.beginnings_are_read.Goals as goal

pub returns : goal.returns
returns c = beginnings_are_read c.steps_give_events.ensures
