use Rattle.rounds.proofs.Opened.{one_run_of_a_plan}
use Rattle.rounds.proofs.laws.one_run_of_a_plan.Goals as goal

pub returns : goal.returns
returns c = one_run_of_a_plan
