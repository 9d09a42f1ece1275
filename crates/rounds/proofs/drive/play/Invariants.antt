-- so many rounds
use Rattle.std.proofs.Common.{◌≡◌, true, Bool, IsTrue, ◌↔◌}
use Rattle.edge_rule.specs.Company.{jobs_of}
use Rattle.rounds.specs.Company.{Spread, IsWhole}
use Rattle.turns.specs.AtTheEnd.{BothKnow}
use Rattle.rounds.specs.Rounds.{Rounds, players_of}
use Rattle.rounds.proofs.drive.play.Given as goal

abbrev pub invariant-loop-number : goal.invariant-loop-number
invariant-loop-number g l = Spread l.bench l.last.front l.desks × (l.last.table ≡ l.bench.table) × (jobs_of l.desks ≡ jobs_of l.fn.desks)
    × (IsWhole l.last.front l.desks → IsWhole l.fn.news.front l.fn.desks × ((idle : Bool)
    × Rounds l.bench.plan (players_of l.fn.desks) l.number idle l.fn.news.front l.last.front (players_of l.desks)
    × (IsTrue l.quiet ↔ ((idle ≡ true) × BothKnow l.bench.plan l.last.front))))
