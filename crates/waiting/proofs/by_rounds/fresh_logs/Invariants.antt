use Rattle.std.proofs.Common.{◌≡◌, replicate}
use Rattle.waiting.specs.Noting.{fresh_log}
use Rattle.waiting.proofs.by_rounds.fresh_logs.Given as goal

abbrev pub invariant-loop-job : goal.invariant-loop-job
invariant-loop-job g l = l.logs.items ≡ replicate l._job fresh_log
