-- as many turns of each as there were rounds
use Rattle.std.proofs.Common.{◌≤◌, ◌-◌}
use Rattle.session_layer.specs.Grown.{TookTurns}
use Rattle.workers.specs.Pairs.{Pairs}
use Rattle.workers.proofs.last_rounds.finish.Given as goal

abbrev pub invariant-loop-number : goal.invariant-loop-number
invariant-loop-number g l = (l.number - l.fn.taken ≤ l.fn.turns - l.fn.taken) × Pairs (TookTurns (l.number - l.fn.taken)) l.fn.desks l.desks
