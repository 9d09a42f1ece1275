use Rattle.std.proofs.Common.{◌<◌, ℕ}
use Rattle.overtaking.specs.Ways.{HasNoPhaseWay}
use Rattle.overtaking.proofs.way.any_phase.Given as goal

abbrev pub invariant-loop-job : goal.invariant-loop-job
invariant-loop-job g l = (j : ℕ) → j < l.job → HasNoPhaseWay l.world.plan l.world.state j
