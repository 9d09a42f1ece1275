use Rattle.std.proofs.Common.{◌-◌, ◌≤◌}
use Rattle.late_thirst.specs.Outside.{IsFirst}
use Rattle.late_thirst.proofs.first_due.first_due.Given as goal

abbrev pub invariant-loop-job : goal.invariant-loop-job
invariant-loop-job l = IsFirst l.reason l.ready l.places l.job l.first × (l.job ≤ l.end)

abbrev pub decreases-loop-job : goal.decreases-loop-job
decreases-loop-job l = l.end - l.job
