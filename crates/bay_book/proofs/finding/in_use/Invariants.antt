use Rattle.bay_book.proofs.Bits.{InUseTo}
use Rattle.bay_book.proofs.finding.in_use.Given as goal

abbrev pub invariant-loop-place : goal.invariant-loop-place
invariant-loop-place l = InUseTo l.asks l.place l.set
