use Rattle.std.proofs.Common.{arith}
use Rattle.edge_rule.proofs.ClosedWords.{counts_inside, counts_read}
use Rattle.edge_rule.proofs.closed.Closed.counts.Goals as goal

pub index-requires : goal.index-requires
index-requires g0 c =
    let ok = c.self.inside.counts.ok.0 in
    let h = counts_inside c.self.inside _ c.self.view_is c.self.invariant c.args.job _ c.job_number.ensures.0 c.requires in
    omega arith

pub returns : goal.returns
returns g0 c = counts_read c.self.inside _ c.self.view_is c.self.invariant c.args.job _ _ c.job_number.ensures.0 c.requires c.index.ensures
