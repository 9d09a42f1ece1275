use Rattle.std.proofs.Common.{◌≡◌, map}
use Rattle.std.specs.List.{range_with_len}
use Rattle.lab_plan.specs.LabPlan.{pairs_with}
use Rattle.lab_plan.proofs.edge_table.lists_by_job.Given as goal

abbrev pub invariant-loop-job : goal.invariant-loop-job
invariant-loop-job g l = l.lists.items ≡ map (pairs_with l.pairs) (range_with_len 0 l.job)
