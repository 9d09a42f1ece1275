use Rattle.std.proofs.Common.{ℕ, ◌<◌, ◌≤◌, get_or}
use Rattle.bay_log.specs.declared.line.Line.{Line}
use Rattle.bay.specs.Restoring.{token_of}
use Rattle.bay.proofs.restoring.largest_token.Given as goal

abbrev pub invariant-loop-line : goal.invariant-loop-line
invariant-loop-line l = (k : ℕ) (d : Line) → k < l.line-index → token_of (get_or l.lines k d) ≤ l.largest
