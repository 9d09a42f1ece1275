use Rattle.bay_book.specs.Settled.{AreWithin}
use Rattle.bay_book.proofs.settling.last_open.Given as goal

abbrev pub invariant-loop-end : goal.invariant-loop-end
invariant-loop-end l = AreWithin l.asks l.from l.end

abbrev pub decreases-loop-end : goal.decreases-loop-end
decreases-loop-end l = l.end
