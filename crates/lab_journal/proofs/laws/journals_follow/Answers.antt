use Rattle.lab_journal.proofs.Taken.{journals_follow}
use Rattle.lab_journal.proofs.laws.journals_follow.Goals as goal

pub returns : goal.returns
returns c = journals_follow
