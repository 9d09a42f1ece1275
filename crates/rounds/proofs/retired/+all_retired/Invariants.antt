use Rattle.std.proofs.Common.{length}
use Rattle.rounds.proofs.retired.+all_retired.Given as goal

abbrev pub decreases-all_retired : goal.decreases-all_retired
decreases-all_retired g l = length l.desks.now
