-- so many turns of each, after none of which the worker may end
use Rattle.session_layer.specs.Grown.{TookTurns}
use Rattle.workers.specs.Pairs.{Pairs}
use Rattle.workers.specs.Team.{AtFirst, GoesOn}
use Rattle.workers.proofs.team.work.Given as goal

abbrev pub invariant-loop-number : goal.invariant-loop-number
invariant-loop-number g l = Pairs (TookTurns l.number) l.fn.desks l.desks × AtFirst (GoesOn l.number) l.fn.desks l.desks
