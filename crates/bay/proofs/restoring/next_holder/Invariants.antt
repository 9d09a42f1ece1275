use Rattle.bay.specs.Restoring.{IsNextTo}
use Rattle.bay.proofs.restoring.next_holder.Given as goal

abbrev pub invariant-loop-place : goal.invariant-loop-place
invariant-loop-place l = IsNextTo l.next l.holders l.place l.best
