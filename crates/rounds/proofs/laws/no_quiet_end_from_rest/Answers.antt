use Rattle.rounds.proofs.QuietEnd.{no_quiet_end_from_rest}
use Rattle.rounds.proofs.laws.no_quiet_end_from_rest.Goals as goal

pub returns : goal.returns
returns c = no_quiet_end_from_rest
