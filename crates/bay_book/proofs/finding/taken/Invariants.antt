use Rattle.std.proofs.Common.{◌≡◌, take}
use Rattle.std.specs.List.{count_by}
use Rattle.bay_book.specs.Asks.{holds_class}
use Rattle.bay_book.proofs.finding.taken.Given as goal

abbrev pub invariant-loop-place : goal.invariant-loop-place
invariant-loop-place l = l.count ≡ count_by (holds_class l.class) (take l.place l.asks)
