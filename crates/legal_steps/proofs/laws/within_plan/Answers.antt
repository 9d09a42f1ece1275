use Rattle.legal_steps.proofs.ReachedLaws.{stays_within_plan}
use Rattle.legal_steps.proofs.laws.within_plan.Goals as goal

pub returns : goal.returns
returns c = stays_within_plan
