use Rattle.std.proofs.Common.{sym, subst}
use Rattle.turns.specs.Lists.{Each}
use Rattle.edge_rule.specs.DeskView.{BenchView, Owns}
use Rattle.edge_rule.specs.Ending.{HasAll}
use Rattle.desk_user.proofs.Owned.{opened_own, opened_all, opened_as}
use Rattle.desk_user.proofs.bench.open.Goals as goal

pub returns-in-Ok-clause-own : goal.returns-in-Ok-clause-own
returns-in-Ok-clause-own g c = let b : BenchView = c.in-Ok.bench in let t = c.in-Ok.ensures in
    subst (Each (Owns b)) (sym (opened_as b c.args.plan.now c.in-Ok.desks.items t.0 t.1)) (opened_own b)

pub returns-in-Ok-clause-all : goal.returns-in-Ok-clause-all
returns-in-Ok-clause-all g c = let b : BenchView = c.in-Ok.bench in let t = c.in-Ok.ensures in
    subst (HasAll b.plan) (sym (opened_as b c.args.plan.now c.in-Ok.desks.items t.0 t.1)) (opened_all b)
