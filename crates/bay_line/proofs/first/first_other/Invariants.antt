use Rattle.bay_line.specs.Turns.{OthersHaveReasons}
use Rattle.bay_line.proofs.first.first_other.Given as goal

abbrev pub invariant-loop-place : goal.invariant-loop-place
invariant-loop-place l = OthersHaveReasons l.most l.in_use l.free l.wishes l.place
