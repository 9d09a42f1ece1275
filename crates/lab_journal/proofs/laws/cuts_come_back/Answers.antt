use Rattle.lab_journal.proofs.SessionsComeBack.{cuts_come_back}
use Rattle.lab_journal.proofs.laws.cuts_come_back.Goals as goal

pub returns : goal.returns
returns c = cuts_come_back c.steps_give_events.ensures c.one_meaning_with_steps.ensures.list c.one_meaning_with_steps.ensures.either
