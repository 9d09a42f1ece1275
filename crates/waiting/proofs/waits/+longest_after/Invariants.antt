use Rattle.std.proofs.Common.{length}
use Rattle.waiting.proofs.waits.+longest_after.Given as goal

abbrev pub decreases-longest_after : goal.decreases-longest_after
decreases-longest_after l = length l.sessions.now
