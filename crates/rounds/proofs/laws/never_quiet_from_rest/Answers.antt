use Rattle.rounds.proofs.Rested.{never_quiet_from_rest}
use Rattle.rounds.proofs.laws.never_quiet_from_rest.Goals as goal

pub returns : goal.returns
returns c = never_quiet_from_rest
