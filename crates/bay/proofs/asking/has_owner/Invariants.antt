use Rattle.std.proofs.Common.{◌≡◌, ℕ, ◌<◌, false}
use Rattle.bay_book.specs.Asks.{ask_at}
use Rattle.bay.specs.Requests.{is_of}
use Rattle.bay.proofs.asking.has_owner.Given as goal

abbrev pub invariant-loop-place : goal.invariant-loop-place
invariant-loop-place l = (k : ℕ) → k < l.place → is_of l.owner (ask_at l.book.asks k) ≡ false
