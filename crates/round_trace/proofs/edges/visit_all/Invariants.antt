use Rattle.std.proofs.Common.{take}
use Rattle.lab_plan.specs.LabPlan.{edges_of}
use Rattle.round_trace.specs.Doing.{VisitsEdges}
use Rattle.round_trace.proofs.edges.visit_all.Given as goal

abbrev pub invariant-loop-place : goal.invariant-loop-place
invariant-loop-place g l = VisitsEdges l.fn.world l.fn.events.items l.job (take l.place (edges_of l.fn.world.plan l.job)) l.world l.events.items
