use Rattle.std.proofs.Common.{◌≡◌, length, take}
use Rattle.edge_rule.specs.Ending.{AreCounted}
use Rattle.edge_rule.proofs.close.counts_by_job.Given as goal

abbrev pub invariant-loop-desk : goal.invariant-loop-desk
invariant-loop-desk g0 l = record { there : length l.counts.items ≡ l.jobs; counted : AreCounted l.counts.items (take l.desk-index l.desks) }
