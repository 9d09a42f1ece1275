use Rattle.std.proofs.Common.{◌≢◌, ℕ, ◌<◌}
use Rattle.bay_line.specs.Wishes.{wish_at}
use Rattle.bay_line.proofs.wanting.waits.Given as goal

abbrev pub invariant-loop-place : goal.invariant-loop-place
invariant-loop-place l = (k : ℕ) → k < l.place → (wish_at l.wishes k).ask ≢ l.ask
