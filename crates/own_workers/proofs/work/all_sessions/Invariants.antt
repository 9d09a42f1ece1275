-- the desk stays at its bench
use Rattle.desk_user.specs.Use.{Keeps}
use Rattle.own_workers.proofs.work.all_sessions.Given as goal

abbrev pub invariant-loop-session : goal.invariant-loop-session
invariant-loop-session g l = Keeps l.bench l.fn.desk l.desk
