use Rattle.std.proofs.Common.{◌≡◌, ◌++◌, length, take}
use Rattle.std.specs.List.{flat_map, range_with_len}
use Rattle.lab_plan.specs.LabPlan.{bottles}
use Rattle.explaining.specs.StateTexts.{fork_line, bottle_line}
use Rattle.explaining.proofs.states.add_edge.Given as goal

abbrev pub invariant-loop-bottle : goal.invariant-loop-bottle
invariant-loop-bottle g l = l.out.items ≡ (l.fn.out.items ++ fork_line l.world.plan l.world.state l.job l.edge)
    ++ flat_map (bottle_line l.world.plan l.world.state l.job l.edge) (take l.bottle (range_with_len 0 (length (bottles l.world.plan l.edge))))
