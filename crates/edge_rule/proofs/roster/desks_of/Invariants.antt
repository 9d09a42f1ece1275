use Rattle.std.proofs.Common.{◌≡◌, ◌≤◌, take}
use Rattle.edge_rule.specs.Company.{jobs_of}
use Rattle.edge_rule.proofs.Rosters.{times}
use Rattle.edge_rule.proofs.roster.desks_of.Given as goal

abbrev pub invariant-loop-desk : goal.invariant-loop-desk
invariant-loop-desk g0 l = record { counted : l.count ≡ times l.job (take l.desk-index (jobs_of l.desks)); few : l.count ≤ l.desk-index }
