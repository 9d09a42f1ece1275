use Rattle.rounds.specs.Company.{first_front}
use Rattle.blocking.specs.Tallying.{NotedThen, no_tally}
use Rattle.blocking.proofs.Changing.{Changed}
use Rattle.blocking.proofs.keepers.note_tallies.Given as goal

-- so many jobs are counted
abbrev pub invariant-loop-place : goal.invariant-loop-place
invariant-loop-place g l = Changed (NotedThen l.plan (first_front l.desks) l.before l.after) no_tally l.place l.fn.tallies l.tallies
