use Rattle.std.proofs.Common.{◌<◌, ℕ}
use Rattle.cycles.specs.Peeling.{IsLeft, IsSink}
use Rattle.cycles.proofs.sinks.sink.Given as goal

abbrev pub invariant-loop-job : goal.invariant-loop-job
invariant-loop-job l = (k : ℕ) → k < l.job → IsLeft l.left k → ¬ IsSink l.pairs l.left k
