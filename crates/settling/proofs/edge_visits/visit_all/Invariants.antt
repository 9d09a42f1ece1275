-- the job's edges so far
use Rattle.std.proofs.Common.{◌≤◌, take}
use Rattle.lab_plan.specs.LabPlan.{edges_of}
use Rattle.settling.specs.Doing.{VisitsEdges}
use Rattle.settling.proofs.edge_visits.visit_all.Given as goal

abbrev pub invariant-loop-index : goal.invariant-loop-index
invariant-loop-index g l = VisitsEdges l.fn.world l.job (take l.index (edges_of l.fn.world.plan l.job)) l.done l.world × (l.done ≤ l.index)
