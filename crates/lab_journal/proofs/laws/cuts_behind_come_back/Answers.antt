use Rattle.lab_journal.proofs.SessionsComeBack.{cuts_behind}
use Rattle.lab_journal.proofs.laws.cuts_behind_come_back.Goals as goal

pub returns : goal.returns
returns c = cuts_behind c.steps_give_events.ensures c.one_meaning_with_steps.ensures.list c.one_meaning_with_steps.ensures.either
