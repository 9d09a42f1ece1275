use Rattle.std.proofs.Common.{◌≡◌, map}
use Rattle.std.specs.List.{range_with_len}
use Rattle.blocking.specs.Tallying.{fresh_tally}
use Rattle.blocking.proofs.keepers.fresh_tallies.Given as goal

-- of so many jobs
abbrev pub invariant-loop-job : goal.invariant-loop-job
invariant-loop-job g l = l.all.items ≡ map (fresh_tally l.plan) (range_with_len 0 l.job)
