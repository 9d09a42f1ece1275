use Rattle.std.proofs.Common.{◌≡◌}
use Rattle.bay_book.proofs.Giving.{give_to}
use Rattle.bay_book.proofs.making.give_all.Given as goal

abbrev pub invariant-loop-place : goal.invariant-loop-place
invariant-loop-place l = l.asks ≡ give_to l.at l.place l.fn.asks
