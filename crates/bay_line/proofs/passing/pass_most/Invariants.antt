use Rattle.std.proofs.Common.{◌≡◌}
use Rattle.bay_line.proofs.KeptOrder.{most_to}
use Rattle.bay_line.proofs.passing.pass_most.Given as goal

abbrev pub invariant-loop-place : goal.invariant-loop-place
invariant-loop-place l = l.wishes ≡ most_to l.most l.place l.fn.wishes
