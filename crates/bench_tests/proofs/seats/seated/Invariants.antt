use Rattle.std.proofs.Common.{vec_len}
use Rattle.turns.specs.Lists.{Each}
use Rattle.edge_rule.specs.DeskView.{Owns}
use Rattle.bench_tests.proofs.seats.seated.Given as goal

abbrev pub invariant-loop-desk : goal.invariant-loop-desk
invariant-loop-desk g l = Each (Owns l.bench) l.desks.items

abbrev pub decreases-loop-desk : goal.decreases-loop-desk
decreases-loop-desk g l = vec_len l.desks
