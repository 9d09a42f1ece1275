use Rattle.session_layer.proofs.Glances.{GlancedTo}
use Rattle.session_layer.proofs.retired.all_retired.Given as goal

abbrev pub invariant-loop-k : goal.invariant-loop-k
invariant-loop-k g l = GlancedTo l.fn.desk l.k l.all l.desk
