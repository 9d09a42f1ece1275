use Rattle.lab_views.proofs.OneRun.{rounds_are_reported}
use Rattle.lab_views.proofs.laws.rounds_are_reported.Goals as goal

pub returns : goal.returns
returns c = rounds_are_reported c.one_meaning.ensures.plan c.one_run.ensures
