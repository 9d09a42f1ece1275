use Rattle.std.proofs.Common.{◌≡◌, replicate}
use Rattle.legal_steps.specs.Counting.{no_counts}
use Rattle.interleaving.proofs.counts.JobCounts.new.Given as goal

abbrev pub invariant-loop-job : goal.invariant-loop-job
invariant-loop-job g l = l.counts.items ≡ replicate l._job no_counts
