use Rattle.std.proofs.Common.{◌≡◌, ◌++◌, length, take}
use Rattle.std.specs.List.{flat_map, range_with_len}
use Rattle.lab_plan.specs.LabPlan.{bottles}
use Rattle.legal_moves.specs.Moves.{fork_moves, bottle_moves}
use Rattle.legal_moves.proofs.candidates.add_edge.Given as goal

abbrev pub invariant-loop-bottle : goal.invariant-loop-bottle
invariant-loop-bottle g l = l.moves.items ≡ (l.fn.moves.items ++ fork_moves l.job l.edge)
    ++ flat_map (bottle_moves l.job l.edge) (take l.bottle (range_with_len 0 (length (bottles l.plan l.edge))))
