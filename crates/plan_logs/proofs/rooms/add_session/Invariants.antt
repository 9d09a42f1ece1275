use Rattle.std.proofs.Common.{take}
use Rattle.lab_plan.specs.LabPlan.{count_on}
use Rattle.plan_logs.specs.Rooms.{AreAdded}
use Rattle.plan_logs.proofs.rooms.add_session.Given as goal

abbrev pub invariant-loop-instrument : goal.invariant-loop-instrument
invariant-loop-instrument g l = AreAdded (λ i. count_on i (take l.instrument-index l.instrument-items)) l.fn.rooms.items l.rooms.items
