use Rattle.std.proofs.Common.{◌≡◌, filter}
use Rattle.std.specs.List.{range_with_len}
use Rattle.lab_plan.specs.LabPlan.{has_end}
use Rattle.lab_plan.proofs.edge_table.EdgeList.new.Given as goal

abbrev pub invariant-loop-e : goal.invariant-loop-e
invariant-loop-e g l = l.edges.items ≡ filter (has_end l.pairs l.job) (range_with_len 0 l.e)
