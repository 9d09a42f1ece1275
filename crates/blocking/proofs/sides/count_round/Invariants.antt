use Rattle.rounds.specs.Company.{first_front}
use Rattle.blocking.specs.Watching.{block_then}
use Rattle.blocking.specs.Owing.{SideThen, no_side}
use Rattle.blocking.proofs.Changing.{Changed}
use Rattle.blocking.proofs.sides.count_round.Given as goal

-- at so many ends of edges
abbrev pub invariant-loop-place : goal.invariant-loop-place
invariant-loop-place g l = Changed (λ _. SideThen l.plan (block_then l.plan (first_front l.desks) l.before l.after)) no_side l.place l.fn.sides l.sides
