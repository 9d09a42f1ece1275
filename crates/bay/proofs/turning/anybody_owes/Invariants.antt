use Rattle.std.proofs.Common.{◌≡◌, ℕ, ◌<◌, false}
use Rattle.bay_book.specs.Asks.{ask_at}
use Rattle.bay.specs.Turning.{owes}
use Rattle.bay.proofs.turning.anybody_owes.Given as goal

abbrev pub invariant-loop-place : goal.invariant-loop-place
invariant-loop-place l = (k : ℕ) → k < l.place → owes (ask_at l.book.asks k) ≡ false
