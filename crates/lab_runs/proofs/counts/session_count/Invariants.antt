-- the sessions of the jobs so far, at most 1000 each
use Rattle.std.proofs.Common.{◌≡◌, ◌≤◌, ◌*◌}
use Rattle.lab_runs.proofs.CountSums.{sessions_to}
use Rattle.lab_runs.proofs.counts.session_count.Given as goal

abbrev pub invariant-loop-job : goal.invariant-loop-job
invariant-loop-job g l = (l.total ≡ sessions_to l.plan l.job) × (l.total ≤ 1000 * l.job)
