use Rattle.interleaving.proofs.PrecedenceLemmas.{ArePairsBelow}
use Rattle.interleaving.proofs.tables.Tables.precedence.Given as goal

abbrev pub invariant-loop-edge : goal.invariant-loop-edge
invariant-loop-edge g l = ArePairsBelow l.self.plan l.self.state l.edge l.pairs.items
