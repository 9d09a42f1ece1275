use Rattle.std.proofs.Common.{length}
use Rattle.waiting.proofs.waits.+longest_of.Given as goal

abbrev pub decreases-longest_of : goal.decreases-longest_of
decreases-longest_of l = length l.sessions.now
