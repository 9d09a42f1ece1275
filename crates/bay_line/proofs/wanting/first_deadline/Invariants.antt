use Rattle.bay_line.specs.Wanted.{IsFirstDeadline}
use Rattle.bay_line.proofs.wanting.first_deadline.Given as goal

abbrev pub invariant-loop-place : goal.invariant-loop-place
invariant-loop-place l = IsFirstDeadline l.wishes l.place l.first
