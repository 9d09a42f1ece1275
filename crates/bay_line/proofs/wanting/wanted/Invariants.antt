use Rattle.bay_line.specs.Wanted.{IsAllOf}
use Rattle.bay_line.proofs.wanting.wanted.Given as goal

abbrev pub invariant-loop-place : goal.invariant-loop-place
invariant-loop-place l = IsAllOf (λ w. w.needs) l.wishes l.place l.all
