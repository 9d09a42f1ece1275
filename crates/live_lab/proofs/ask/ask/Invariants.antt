use Rattle.std.proofs.Common.{◌-◌, ◌≤◌}
use Rattle.live_lab.proofs.Asked.{AskedTo}
use Rattle.live_lab.proofs.ask.ask.Given as goal

abbrev pub invariant-loop-job : goal.invariant-loop-job
invariant-loop-job g l = AskedTo l.waiting l.world l.fn.line l.job l.line × (l.job ≤ l.jobs)

abbrev pub decreases-loop-job : goal.decreases-loop-job
decreases-loop-job g l = l.jobs - l.job
