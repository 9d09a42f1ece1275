use Rattle.rounds.proofs.SameRun.{one_run}
use Rattle.rounds.proofs.laws.one_run.Goals as goal

pub returns : goal.returns
returns c = one_run
