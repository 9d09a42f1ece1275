use Rattle.bay_book.specs.Moments.{due_at}
use Rattle.bay_book.proofs.Least.{LeastTo}
use Rattle.bay_book.proofs.finding.due.Given as goal

abbrev pub invariant-loop-place : goal.invariant-loop-place
invariant-loop-place l = LeastTo (due_at l.grace l.durable l.disk) l.asks l.place l.least
