use Rattle.std.proofs.Common.{◌≡◌, ℕ, ◌<◌, false}
use Rattle.bay_book.specs.Asks.{ask_at}
use Rattle.bay_book.specs.Moments.{is_over_limit}
use Rattle.bay_book.proofs.finding.first_over_limit.Given as goal

abbrev pub invariant-loop-place : goal.invariant-loop-place
invariant-loop-place l = (i : ℕ) → i < l.place → is_over_limit l.now l.wanted l.full (ask_at l.asks i) ≡ false
