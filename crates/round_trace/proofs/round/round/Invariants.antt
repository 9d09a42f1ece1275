use Rattle.std.proofs.Common.{◌≡◌, Bool, take, drop}
use Rattle.rounds.specs.Rounds.{Round}
use Rattle.round_trace.specs.Players.{players_of, StandsAt}
use Rattle.round_trace.proofs.round.round.Given as goal

-- a turn of each so far
abbrev pub invariant-loop-place : goal.invariant-loop-place
invariant-loop-place g l = StandsAt l.world l.events.items × (l.world.plan ≡ l.fn.world.plan) × (drop l.place (players_of l.players) ≡ drop l.place
    (players_of l.fn.players))
    × ((idle : Bool) × Round l.fn.world.plan (take l.place (players_of l.fn.players)) idle l.fn.events.items l.events.items (take l.place
    (players_of l.players)))
