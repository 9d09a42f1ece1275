use Rattle.std.proofs.Common.{◌≡◌, drop}
use Rattle.bay_log.specs.Holders.{entry_in}
use Rattle.bay_log.proofs.alive.entry_of.Given as goal

abbrev pub invariant-loop-holder : goal.invariant-loop-holder
invariant-loop-holder l = entry_in l.holders l.ask ≡ entry_in (drop l.holder-index l.holders) l.ask
