use Rattle.bay_line.specs.Wanted.{IsAllOf}
use Rattle.bay_line.proofs.wanting.classes.Given as goal

abbrev pub invariant-loop-place : goal.invariant-loop-place
invariant-loop-place l = IsAllOf (λ w. w.classes) l.wishes l.place l.all
