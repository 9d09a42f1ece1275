use Rattle.std.proofs.Common.{◌≡◌}
use Rattle.std.specs.List.{flat_map, range_with_len}
use Rattle.blocking.specs.Owing.{sides_of}
use Rattle.blocking.proofs.sides.fresh_sides.Given as goal

-- of so many jobs
abbrev pub invariant-loop-job : goal.invariant-loop-job
invariant-loop-job g l = l.sides.items ≡ flat_map (sides_of l.plan) (range_with_len 0 l.job)
