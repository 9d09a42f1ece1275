use Rattle.std.proofs.Common.{◌-◌, length}
use Rattle.bay_log.proofs.Whole.{Reads}
use Rattle.bay_log.proofs.reading.read.Given as goal

abbrev pub invariant-loop-end : goal.invariant-loop-end
invariant-loop-end l = Reads l.bytes l.lines.items l.used l.sum

abbrev pub decreases-loop-end : goal.decreases-loop-end
decreases-loop-end l = length l.initial.bytes - l.used
