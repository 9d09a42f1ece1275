use Rattle.std.proofs.Common.{◌≡◌}
use Rattle.bay_book.proofs.Giving.{turn_to}
use Rattle.bay_book.proofs.making.turn_all.Given as goal

abbrev pub invariant-loop-place : goal.invariant-loop-place
invariant-loop-place l = l.asks ≡ turn_to l.at l.place l.fn.asks
