-- one digit was counted for each that is gone from `rest`, and one more
use Rattle.std.proofs.Common.{◌≡◌, ◌+◌, length, decimal}
use Rattle.report.proofs.line.digits_of.Given as goal

abbrev pub invariant-loop-rest : goal.invariant-loop-rest
invariant-loop-rest l = l.count + length (decimal l.rest) ≡ length (decimal l.number) + 1

abbrev pub decreases-loop-rest : goal.decreases-loop-rest
decreases-loop-rest l = l.rest
