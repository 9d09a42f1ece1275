use Rattle.std.proofs.Common.{◌≡◌, ◌≢◌, ◌<◌}
use Rattle.waiting.specs.Text.{longest_below}
use Rattle.waiting.proofs.longest.longest_below.Given as goal

-- of the jobs so far
abbrev pub invariant-loop-job : goal.invariant-loop-job
invariant-loop-job g l = (l.best ≡ longest_below l.run l.job) × (l.best.wait ≢ 0 → l.best.job < l.job)
