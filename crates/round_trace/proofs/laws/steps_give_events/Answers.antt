use Rattle.round_trace.proofs.StepLaws.{steps_give_events}
use Rattle.round_trace.proofs.laws.steps_give_events.Goals as goal

pub returns : goal.returns
returns c = steps_give_events
