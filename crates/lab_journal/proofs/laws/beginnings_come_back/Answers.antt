use Rattle.lab_journal.proofs.ComesBack.{beginnings_come_back}
use Rattle.lab_journal.proofs.laws.beginnings_come_back.Goals as goal

pub returns : goal.returns
returns c = beginnings_come_back c.beginnings_are_read.ensures c.one_meaning_with_steps.ensures.list
