-- the jobs so far
use Rattle.std.proofs.Common.{◌≡◌}
use Rattle.std.specs.List.{range_with_len}
use Rattle.measured_orders.proofs.best.as_they_stand.Given as goal

abbrev pub invariant-loop-job : goal.invariant-loop-job
invariant-loop-job g l = l.order.items ≡ range_with_len 0 l.job
