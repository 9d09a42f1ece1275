use Rattle.blocking.specs.Tallying.{IsPutAway, no_tally}
use Rattle.blocking.proofs.Changing.{Changed}
use Rattle.blocking.proofs.keepers.put_all_away.Given as goal

-- so many jobs are done
abbrev pub invariant-loop-place : goal.invariant-loop-place
invariant-loop-place g l = Changed (IsPutAway l.plan) no_tally l.place l.fn.tallies l.tallies
