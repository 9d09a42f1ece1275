use Rattle.std.proofs.Common.{◌≡◌, ℕ, ◌<◌, true}
use Rattle.bay_book.specs.Asks.{ask_at}
use Rattle.bay.specs.Cores.{core}
use Rattle.bay.specs.Turning.{may_be}
use Rattle.bay.proofs.turning.who_may_not.Given as goal

abbrev pub invariant-loop-place : goal.invariant-loop-place
invariant-loop-place l = (k : ℕ) → k < l.place → may_be l.classes (core l.line l.book) (ask_at l.book.asks k) ≡ true
