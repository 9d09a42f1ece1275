use Rattle.std.proofs.Common.{◌≡◌, ℕ, ◌<◌, false}
use Rattle.bay_line.specs.Wishes.{wish_at}
use Rattle.bay_line.specs.Turns.{holds_back}
use Rattle.bay_line.proofs.held_back.is_held_back.Given as goal

abbrev pub invariant-loop-other : goal.invariant-loop-other
invariant-loop-other l = (i : ℕ) → i < l.other → holds_back l.most l.free (wish_at l.wishes l.place) (wish_at l.wishes i) ≡ false
