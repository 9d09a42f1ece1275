-- no job so far is a neighbour with the colour
use Rattle.std.proofs.Common.{ℕ, ◌<◌, ◌≢◌, slice_index}
use Rattle.std.specs.List.{Contains}
use Rattle.lab_plan.specs.LabPlan.{edges, lower_first}
use Rattle.arranging.proofs.greedy.is_near.Given as goal

abbrev pub invariant-loop-other : goal.invariant-loop-other
invariant-loop-other g l = (k : ℕ) → k < l.other → Contains (edges l.plan) (lower_first l.job k) → slice_index l.colours k ≢ l.colour
