use Rattle.std.proofs.Common.{◌≡◌, ◌++◌, take}
use Rattle.std.specs.List.{flat_map}
use Rattle.lab_plan.specs.LabPlan.{edges_of}
use Rattle.legal_moves.specs.Moves.{own_moves, edge_moves}
use Rattle.legal_moves.proofs.candidates.add_job.Given as goal

abbrev pub invariant-loop-edge : goal.invariant-loop-edge
invariant-loop-edge g l =
    l.moves.items ≡ (l.fn.moves.items ++ own_moves l.job) ++ flat_map (edge_moves l.plan l.job) (take l.edge-index (edges_of l.plan l.job))
