use Rattle.journal_views.proofs.Replayed.{is_replayed}
use Rattle.journal_views.proofs.laws.journal_is_replayed.Goals as goal

pub returns : goal.returns
returns c = is_replayed c.one_meaning_with_steps.ensures.list c.one_meaning_with_steps.ensures.either
