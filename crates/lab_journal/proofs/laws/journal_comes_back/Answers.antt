use Rattle.lab_journal.proofs.ComesBack.{journal_comes_back}
use Rattle.lab_journal.proofs.laws.journal_comes_back.Goals as goal

pub returns : goal.returns
returns c = journal_comes_back c.files_are_read.ensures c.one_meaning_with_steps.ensures.list
