use Rattle.rounds.proofs.QuietEnd.{no_quiet_end}
use Rattle.rounds.proofs.laws.no_quiet_end.Goals as goal

pub returns : goal.returns
returns c = no_quiet_end
