-- of the sessions so far
use Rattle.std.proofs.Common.{◌≡◌}
use Rattle.lab_journal.specs.Rooms.{longest_of}
use Rattle.lab_journal.proofs.room.longest_of.Given as goal

abbrev pub invariant-loop-session : goal.invariant-loop-session
invariant-loop-session g l = l.longest ≡ longest_of l.plan l.job l.session
