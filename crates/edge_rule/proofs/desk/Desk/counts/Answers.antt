use Rattle.edge_rule.proofs.Knowledge.{known_counts}
use Rattle.edge_rule.proofs.desk.Desk.counts.Goals as goal

pub returns : goal.returns
returns g0 c = known_counts c.self.inside _ c.self.view_is c.self.invariant
