use Rattle.std.proofs.Common.{◌<◌, ℕ}
use Rattle.legal_steps.specs.State.{IsOwn}
use Rattle.overtaking.specs.Ways.{HasNoForkWay}
use Rattle.overtaking.proofs.way.any_fork.Given as goal

abbrev pub invariant-loop-number : goal.invariant-loop-number
invariant-loop-number g l = (j e : ℕ) → e < l.number → IsOwn l.world.plan j e → HasNoForkWay l.world.plan l.world.state j e
