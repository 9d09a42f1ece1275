use Rattle.waiting.proofs.Stands.{Follows}
use Rattle.waiting.proofs.watcher.drive.Given as goal

-- so many rounds were done
abbrev pub invariant-loop-number : goal.invariant-loop-number
invariant-loop-number g l = Follows l.bench l.number l.desks (g.W.Watcher.tells l.bench.plan l.watcher)
