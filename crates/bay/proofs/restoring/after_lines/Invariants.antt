use Rattle.std.proofs.Common.{ℕ, ◌<◌, ◌≤◌, get_or}
use Rattle.bay_log.specs.declared.line.Line.{Line}
use Rattle.bay.specs.Restoring.{after_line}
use Rattle.bay.proofs.restoring.after_lines.Given as goal

abbrev pub invariant-loop-line : goal.invariant-loop-line
invariant-loop-line l = (k : ℕ) (d : Line) → k < l.line-index → after_line (get_or l.lines k d) ≤ l.next
