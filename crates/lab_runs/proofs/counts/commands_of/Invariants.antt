-- the commands of the sessions so far
use Rattle.std.proofs.Common.{◌≡◌}
use Rattle.lab_plan.specs.LabPlan.{sessions}
use Rattle.lab_runs.proofs.CountSums.{commands_to}
use Rattle.lab_runs.proofs.counts.commands_of.Given as goal

abbrev pub invariant-loop-before : goal.invariant-loop-before
invariant-loop-before g l = l.total ≡ commands_to (sessions l.plan l.job) l.before
