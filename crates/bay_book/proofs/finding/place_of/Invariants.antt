use Rattle.std.proofs.Common.{◌≡◌, ℕ, ◌<◌}
use Rattle.bay_book.specs.Asks.{ask_at}
use Rattle.bay_book.proofs.finding.place_of.Given as goal

abbrev pub invariant-loop-place : goal.invariant-loop-place
invariant-loop-place l = (j : ℕ) → j < l.place → (ask_at l.asks j).number ≡ l.number → ⊥
