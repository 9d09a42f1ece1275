use Rattle.std.proofs.Common.{◌≡◌, ℕ, ◌<◌, false}
use Rattle.bay_line.specs.Wishes.{wish_at}
use Rattle.bay_line.specs.Turns.{is_elder}
use Rattle.bay_line.proofs.held_back.has_elder.Given as goal

abbrev pub invariant-loop-other : goal.invariant-loop-other
invariant-loop-other l = (j : ℕ) → j < l.other → is_elder l.most l.free (wish_at l.wishes l.place) (wish_at l.wishes j) ≡ false
