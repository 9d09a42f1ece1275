use Rattle.std.proofs.Common.{◌-◌, ◌≤◌}
use Rattle.lab_plan.proofs.Gathered.{Gathered}
use Rattle.live_lab.specs.Kinds.{IsOf}
use Rattle.live_lab.proofs.kinds.waited_for_of.Given as goal

abbrev pub invariant-loop-job : goal.invariant-loop-job
invariant-loop-job g l = Gathered l.set l.job (IsOf l.kind l.waiting l.clocks l.world) × (l.job ≤ l.jobs)

abbrev pub decreases-loop-job : goal.decreases-loop-job
decreases-loop-job g l = l.jobs - l.job
