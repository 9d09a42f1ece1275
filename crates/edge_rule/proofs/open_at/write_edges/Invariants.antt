use Rattle.edge_rule.specs.Standing.{AreEdgeWords}
use Rattle.edge_rule.proofs.open_at.write_edges.Given as goal

abbrev pub invariant-loop-edge : goal.invariant-loop-edge
invariant-loop-edge g l = AreEdgeWords l.plan l.there l.edge l.words.items
