use Rattle.edge_rule.specs.Standing.{AreWordsOf}
use Rattle.edge_rule.proofs.open_at.write_phases.Given as goal

abbrev pub invariant-loop-job : goal.invariant-loop-job
invariant-loop-job g l = AreWordsOf l.plan l.there l.known l.job l.words.items
