-- where it isn't to sleep, it wasn't rung
use Rattle.std.proofs.Common.{◌≡◌, false}
use Rattle.bell.proofs.listener.Listener.outlasts.Given as goal

abbrev pub invariant-loop : goal.invariant-loop
invariant-loop g l = l.sleeps ≡ 0 → l.rung ≡ false
