-- the job's edges so far
use Rattle.std.proofs.Common.{◌≤◌, take}
use Rattle.session_layer.specs.Turn.{Along}
use Rattle.session_layer.proofs.turning.visit_all.Given as goal

abbrev pub invariant-loop-edge : goal.invariant-loop-edge
invariant-loop-edge g l = Along l.fn.desk (take l.edge-index l.own) l.done l.lost l.desk × (l.done ≤ l.edge-index) × (l.lost ≤ l.edge-index)
