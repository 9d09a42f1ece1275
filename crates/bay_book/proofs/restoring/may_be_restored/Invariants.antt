use Rattle.std.proofs.Common.{◌≡◌, ℕ, ◌<◌, false}
use Rattle.bay_book.specs.Asks.{ask_at}
use Rattle.bay_book.specs.Restoring.{is_against}
use Rattle.bay_book.proofs.restoring.may_be_restored.Given as goal

abbrev pub invariant-loop-place : goal.invariant-loop-place
invariant-loop-place l = (j : ℕ) → j < l.place → is_against l.number l.token (ask_at l.asks j) ≡ false
