use Rattle.std.proofs.Common.{◌≡◌, Bool, length}
use Rattle.rounds.specs.Rounds.{Rounds}
use Rattle.rounds.specs.FromOpening.{fresh_players}
use Rattle.round_trace.specs.Players.{players_of, StandsAt}
use Rattle.round_trace.proofs.whole_trace.play.Given as goal

-- so many rounds
abbrev pub invariant-loop-number : goal.invariant-loop-number
invariant-loop-number g l = StandsAt l.world l.events.items × (l.world.plan ≡ l.fn.world.plan)
    × ((idle : Bool) × Rounds l.fn.world.plan (fresh_players (length l.fn.world.plan.jobs)) l._number idle l.fn.events.items l.events.items (players_of l.players))
