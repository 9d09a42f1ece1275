use Rattle.std.proofs.Common.{◌≡◌}
use Rattle.bay_line.specs.Turns.{pass_to}
use Rattle.bay_line.proofs.passing.pass_all.Given as goal

abbrev pub invariant-loop-place : goal.invariant-loop-place
invariant-loop-place l = l.wishes ≡ pass_to l.most l.free l.needs l.place l.fn.wishes
