use Rattle.std.proofs.Common.{◌-◌, ◌≤◌}
use Rattle.late_thirst.proofs.Passing.{ArePassedTo}
use Rattle.late_thirst.proofs.entries.go_in.Given as goal

abbrev pub invariant-loop-other : goal.invariant-loop-other
invariant-loop-other l = ArePassedTo l.most l.ready l.needs l.job l.fn.places l.other l.places × (l.other ≤ l.end)

abbrev pub decreases-loop-other : goal.decreases-loop-other
decreases-loop-other l = l.end - l.other
