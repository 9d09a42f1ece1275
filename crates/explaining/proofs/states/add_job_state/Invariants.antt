use Rattle.std.proofs.Common.{◌≡◌, ◌++◌, take}
use Rattle.std.specs.List.{flat_map}
use Rattle.lab_plan.specs.LabPlan.{edges_of}
use Rattle.explaining.specs.StateTexts.{phase_line, edge_text}
use Rattle.explaining.proofs.states.add_job_state.Given as goal

abbrev pub invariant-loop-edge : goal.invariant-loop-edge
invariant-loop-edge g l = l.out.items ≡ (l.fn.out.items ++ phase_line l.world.plan l.world.state l.job)
    ++ flat_map (edge_text l.world.plan l.world.state l.job) (take l.edge-index (edges_of l.world.plan l.job))
