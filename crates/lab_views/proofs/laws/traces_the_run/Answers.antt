use Rattle.lab_views.proofs.Traced.{traces_the_run}
use Rattle.lab_views.proofs.laws.traces_the_run.Goals as goal

pub returns : goal.returns
returns c = traces_the_run c.one_meaning.ensures.plan c.one_run.ensures c.steps_give_events.ensures
