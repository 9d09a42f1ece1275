use Rattle.std.proofs.Common.{◌≡◌, ◌-◌, ◌<◌, ◌≤◌, true, bit_or}
use Rattle.lab_plan.specs.InstrumentSets.{holds}
use Rattle.live_lab.proofs.Clocks.{IsCountedTo}
use Rattle.live_lab.proofs.settle.count_turns.Given as goal

abbrev pub invariant-loop-job : goal.invariant-loop-job
invariant-loop-job g l =
    IsCountedTo l.world l.waiting l.thirsty l.fn.clocks l.job l.clocks × (l.job ≤ l.jobs) × (l.job < l.jobs → holds (bit_or l.waiting l.thirsty) l.job ≡ true)

abbrev pub decreases-loop-job : goal.decreases-loop-job
decreases-loop-job g l = l.jobs - l.job
