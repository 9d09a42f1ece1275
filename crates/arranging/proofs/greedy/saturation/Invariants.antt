use Rattle.std.proofs.Common.{◌≤◌}
use Rattle.arranging.proofs.greedy.saturation.Given as goal

abbrev pub invariant-loop-used : goal.invariant-loop-used
invariant-loop-used g l = l.near ≤ l.used
