use Rattle.std.proofs.Common.{◌≡◌, ◌-◌, ◌<◌, ◌≤◌, ◌*◌, true}
use Rattle.settling.specs.Left.{is_due}
use Rattle.settling.specs.Attending.{Attends}
use Rattle.settling.proofs.resting.round.Given as goal

abbrev pub invariant-loop-job : goal.invariant-loop-job
invariant-loop-job g l =
    Attends (λ k. k < l.job) l.fn.world l.fn.due l.done l.world l.due × (l.done ≤ 2481 * l.job) × (l.job ≤ l.jobs) × (l.job < l.jobs → is_due l.due l.job ≡ true)

abbrev pub decreases-loop-job : goal.decreases-loop-job
decreases-loop-job g l = l.jobs - l.job
