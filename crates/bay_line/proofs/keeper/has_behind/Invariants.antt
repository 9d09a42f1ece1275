use Rattle.std.proofs.Common.{◌≡◌, ℕ, ◌<◌, false}
use Rattle.bay_line.specs.Wishes.{wish_at}
use Rattle.bay_line.specs.Keepers.{is_behind}
use Rattle.bay_line.proofs.keeper.has_behind.Given as goal

abbrev pub invariant-loop-place : goal.invariant-loop-place
invariant-loop-place l = (k : ℕ) → k < l.place → is_behind l.most l.free l.ask l.instrument (wish_at l.wishes k) ≡ false
