-- the commands of the jobs so far
use Rattle.std.proofs.Common.{◌≡◌}
use Rattle.lab_runs.proofs.CountSums.{job_commands_to}
use Rattle.lab_runs.proofs.counts.command_count.Given as goal

abbrev pub invariant-loop-job : goal.invariant-loop-job
invariant-loop-job g l = l.total ≡ job_commands_to l.plan l.job
