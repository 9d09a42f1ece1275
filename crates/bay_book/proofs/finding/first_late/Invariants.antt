use Rattle.std.proofs.Common.{◌≡◌, ℕ, ◌<◌, false}
use Rattle.bay_book.specs.Asks.{ask_at}
use Rattle.bay_book.specs.Moments.{is_late}
use Rattle.bay_book.proofs.finding.first_late.Given as goal

abbrev pub invariant-loop-place : goal.invariant-loop-place
invariant-loop-place l = (i : ℕ) → i < l.place → is_late l.now l.durable l.disk (ask_at l.asks i) ≡ false
