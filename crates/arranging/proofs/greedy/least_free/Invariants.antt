-- the colours so far are near
use Rattle.std.proofs.Common.{ℕ, ◌<◌}
use Rattle.arranging.specs.Colours.{IsNear}
use Rattle.arranging.proofs.greedy.least_free.Given as goal

abbrev pub invariant-loop-colour : goal.invariant-loop-colour
invariant-loop-colour g l = (c : ℕ) → c < l.colour → IsNear l.plan l.colours l.job c
