use Rattle.legal_steps.proofs.RoomShares.{first_on}
use Rattle.plan_logs.specs.Rooms.{AreAdded}
use Rattle.plan_logs.proofs.rooms.add_job.Given as goal

abbrev pub invariant-loop-before : goal.invariant-loop-before
invariant-loop-before g l = AreAdded (λ i. first_on l.plan i l.job l.before) l.fn.rooms.items l.rooms.items
