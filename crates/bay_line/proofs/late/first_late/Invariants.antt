use Rattle.std.proofs.Common.{◌≡◌, ℕ, ◌<◌, false}
use Rattle.bay_line.specs.Wishes.{wish_at, is_late}
use Rattle.bay_line.proofs.late.first_late.Given as goal

abbrev pub invariant-loop-place : goal.invariant-loop-place
invariant-loop-place l = (k : ℕ) → k < l.place → is_late l.now (wish_at l.wishes k) ≡ false
