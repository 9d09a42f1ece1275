use Rattle.rounds.proofs.QuietRound.{quiet_round_is_retired}
use Rattle.rounds.proofs.quiet.quiet_round_is_retired.Goals as goal

pub returns : goal.returns
returns c = quiet_round_is_retired
