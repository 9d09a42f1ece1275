use Rattle.std.proofs.Common.{◌-◌}
use Rattle.late_thirst.proofs.Gone.{GoneSoFar}
use Rattle.late_thirst.proofs.entries.passed_go_in.Given as goal

abbrev pub invariant-loop-job : goal.invariant-loop-job
invariant-loop-job l = GoneSoFar l.most l.ready l.fn.places l.set l.places

abbrev pub decreases-loop-job : goal.decreases-loop-job
decreases-loop-job l = 4294967296 - l.set
