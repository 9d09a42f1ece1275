use Rattle.round_trace.proofs.StepLaws.{steps_are_of_plan}
use Rattle.round_trace.proofs.laws.steps_are_of_plan.Goals as goal

pub returns : goal.returns
returns c = steps_are_of_plan
