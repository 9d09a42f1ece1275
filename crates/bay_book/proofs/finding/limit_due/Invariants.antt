use Rattle.bay_book.specs.Moments.{limit_due_at}
use Rattle.bay_book.proofs.Least.{LeastTo}
use Rattle.bay_book.proofs.finding.limit_due.Given as goal

abbrev pub invariant-loop-place : goal.invariant-loop-place
invariant-loop-place l = LeastTo (limit_due_at l.wanted l.full) l.asks l.place l.least
