use Rattle.settling.proofs.Waking.{SelfWoken}
use Rattle.settling.proofs.due.wake_self.Given as goal

abbrev pub invariant-loop-edge : goal.invariant-loop-edge
invariant-loop-edge g l = SelfWoken l.plan l.job l.fn.due l.edge-items l.edge-index l.due
