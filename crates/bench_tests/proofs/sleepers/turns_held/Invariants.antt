-- the desk stays at its bench
use Rattle.desk_user.specs.Use.{Keeps}
use Rattle.bench_tests.proofs.sleepers.turns_held.Given as goal

abbrev pub invariant-loop-number : goal.invariant-loop-number
invariant-loop-number g l = Keeps l.bench l.fn.desk l.desk
