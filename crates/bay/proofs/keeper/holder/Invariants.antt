use Rattle.std.proofs.Common.{◌≡◌, ℕ, ◌<◌, false}
use Rattle.bay_book.specs.Asks.{ask_at}
use Rattle.bay.specs.Keepers.{holds_it}
use Rattle.bay.proofs.keeper.holder.Given as goal

abbrev pub invariant-loop-place : goal.invariant-loop-place
invariant-loop-place l = (k : ℕ) → k < l.place → holds_it l.instrument (ask_at l.book.asks k) ≡ false
