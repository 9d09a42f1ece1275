use Rattle.std.proofs.Common.{length}
use Rattle.round_picture.proofs.sessions.+add_sessions.Given as goal

abbrev pub decreases-add_sessions : goal.decreases-add_sessions
decreases-add_sessions g l = length l.sessions.now
