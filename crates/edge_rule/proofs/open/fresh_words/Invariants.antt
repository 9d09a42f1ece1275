use Rattle.edge_rule.specs.Openings.{AreWritten}
use Rattle.edge_rule.proofs.open.fresh_words.Given as goal

abbrev pub invariant-loop-edge : goal.invariant-loop-edge
invariant-loop-edge g0 l = AreWritten l.plan l.edge l.words.items
