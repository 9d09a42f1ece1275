use Rattle.lab_journal.proofs.Histories.{stays_written}
use Rattle.lab_journal.proofs.laws.stays_written.Goals as goal

pub returns : goal.returns
returns c = stays_written c.sessions_are_granted.ensures
