use Rattle.std.proofs.Common.{◌≡◌, replicate}
use Rattle.blocking.proofs.holdings.no_sets.Given as goal

abbrev pub invariant-loop-job : goal.invariant-loop-job
invariant-loop-job g l = l.sets.items ≡ replicate l._job 0
