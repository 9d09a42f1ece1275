use Rattle.rounds.proofs.QuietRound.{both_saw_is_both_know}
use Rattle.rounds.proofs.quiet.both_saw_is_both_know.Goals as goal

pub returns : goal.returns
returns c = both_saw_is_both_know
