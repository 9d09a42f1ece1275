use Rattle.lab_views.proofs.Traced.{traces_the_run, trace_is_replayed}
use Rattle.lab_views.proofs.laws.trace_is_replayed.Goals as goal

pub returns : goal.returns
returns c = trace_is_replayed c.one_meaning_with_steps.ensures.list c.one_meaning_with_steps.ensures.either
    (traces_the_run c.one_meaning.ensures.plan c.one_run.ensures c.steps_give_events.ensures)
