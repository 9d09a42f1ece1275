use Rattle.std.proofs.Common.{take}
use Rattle.bay_log.specs.Alive.{alive}
use Rattle.bay_log.specs.Holders.{AreHolders}
use Rattle.bay_log.proofs.alive.holders.Given as goal

abbrev pub invariant-loop-line : goal.invariant-loop-line
invariant-loop-line l = AreHolders l.found.items (alive (take l.line-index l.lines))
