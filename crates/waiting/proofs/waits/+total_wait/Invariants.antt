use Rattle.std.proofs.Common.{length}
use Rattle.waiting.proofs.waits.+total_wait.Given as goal

abbrev pub decreases-total_wait : goal.decreases-total_wait
decreases-total_wait l = length l.sessions.now
