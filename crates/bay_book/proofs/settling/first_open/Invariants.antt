use Rattle.bay_book.specs.Settled.{AreWithin}
use Rattle.bay_book.proofs.settling.first_open.Given as goal

abbrev pub invariant-loop-place : goal.invariant-loop-place
invariant-loop-place l = AreWithin l.asks l.place l.to
