-- of the jobs so far
use Rattle.std.proofs.Common.{◌≡◌}
use Rattle.lab_journal.specs.Rooms.{longest_below}
use Rattle.lab_journal.proofs.room.longest_session.Given as goal

abbrev pub invariant-loop-job : goal.invariant-loop-job
invariant-loop-job g l = l.longest ≡ longest_below l.plan l.job
