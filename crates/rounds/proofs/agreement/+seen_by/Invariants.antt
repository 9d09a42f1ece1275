use Rattle.std.proofs.Common.{length}
use Rattle.rounds.proofs.agreement.+seen_by.Given as goal

abbrev pub decreases-seen_by : goal.decreases-seen_by
decreases-seen_by g l = length l.desks.now
