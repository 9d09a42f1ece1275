use Rattle.bay_line.proofs.Kept.{KeptSoFar}
use Rattle.bay_line.proofs.first.first_kept.Given as goal

abbrev pub invariant-loop-place : goal.invariant-loop-place
invariant-loop-place l = KeptSoFar l.most l.in_use l.free l.wishes l.place l.kept
