use Rattle.std.proofs.Common.{◌≡◌, length}
use Rattle.std.specs.Prelude.{count_by}
use Rattle.cycles.specs.Peeling.{NoCycleBeginsOut}
use Rattle.cycles.proofs.sinks.take_out_sinks.Given as goal

abbrev pub invariant-loop-job : goal.invariant-loop-job
invariant-loop-job g l = record {
  len : length l.left.items ≡ length l.initial.left.items;
  out : NoCycleBeginsOut l.pairs l.left.items;
}

abbrev pub decreases-loop-job : goal.decreases-loop-job
decreases-loop-job g l = count_by (λ is_left. is_left) l.left.items
