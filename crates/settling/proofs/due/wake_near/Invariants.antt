use Rattle.settling.proofs.Waking.{NearWoken}
use Rattle.settling.proofs.due.wake_near.Given as goal

abbrev pub invariant-loop-edge : goal.invariant-loop-edge
invariant-loop-edge g l = NearWoken l.plan l.fn.job l.fn.due l.edge-items l.edge-index l.due
