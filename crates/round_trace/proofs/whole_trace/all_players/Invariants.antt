use Rattle.std.proofs.Common.{◌≡◌}
use Rattle.rounds.specs.FromOpening.{fresh_players}
use Rattle.round_trace.specs.Players.{players_of}
use Rattle.round_trace.proofs.whole_trace.all_players.Given as goal

abbrev pub invariant-loop-job : goal.invariant-loop-job
invariant-loop-job g l = players_of l.players.items ≡ fresh_players l.job
