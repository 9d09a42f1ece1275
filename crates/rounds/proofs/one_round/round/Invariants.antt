-- a turn of each so far
use Rattle.std.proofs.Common.{◌≡◌, take, drop}
use Rattle.edge_rule.specs.Company.{jobs_of}
use Rattle.rounds.specs.Company.{Spread, IsWhole}
use Rattle.rounds.specs.Rounds.{Round, players_of}
use Rattle.rounds.proofs.one_round.round.Given as goal

abbrev pub invariant-loop-place : goal.invariant-loop-place
invariant-loop-place g l = Spread l.bench l.last.front l.desks × (l.last.table ≡ l.bench.table)
    × (jobs_of l.desks ≡ jobs_of l.fn.desks) × (drop l.place (players_of l.desks) ≡ drop l.place (players_of l.fn.desks))
    × (IsWhole l.last.front l.desks → IsWhole l.fn.news.front l.fn.desks
    × Round l.bench.plan (take l.place (players_of l.fn.desks)) l.idle l.fn.news.front l.last.front (take l.place (players_of l.desks)))
