-- a turn of each so far
use Rattle.session_layer.specs.Grown.{TookTurns}
use Rattle.workers.proofs.Ahead.{Ahead}
use Rattle.workers.proofs.round.team_round.Given as goal

abbrev pub invariant-loop-place : goal.invariant-loop-place
invariant-loop-place g l = Ahead (TookTurns 1) l.place l.fn.desks l.desks
