use Rattle.edge_rule.proofs.Rosters.{AreSeldomSoFar}
use Rattle.edge_rule.proofs.roster.are_apart.Given as goal

abbrev pub invariant-loop-desk : goal.invariant-loop-desk
invariant-loop-desk g0 l = AreSeldomSoFar l.desks l.desk-index
