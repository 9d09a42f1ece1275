use Rattle.std.proofs.Common.{◌≡◌, ℕ, ◌<◌, false}
use Rattle.bay_line.specs.Wishes.{wish_at}
use Rattle.bay_line.specs.Keepers.{keeps}
use Rattle.bay_line.proofs.keeper.keeper.Given as goal

abbrev pub invariant-loop-place : goal.invariant-loop-place
invariant-loop-place l = (i : ℕ) → i < l.place → keeps l.most l.free l.ask l.instrument l.behind (wish_at l.wishes i) ≡ false
