-- the desks are at their bench
use Rattle.turns.specs.Lists.{Each}
use Rattle.edge_rule.specs.DeskView.{Owns}
use Rattle.bench_tests.proofs.lines.do_all.Given as goal

abbrev pub invariant-loop-number : goal.invariant-loop-number
invariant-loop-number g l = Each (Owns l.bench) l.desks
