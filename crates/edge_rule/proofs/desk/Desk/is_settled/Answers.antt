use Rattle.std.proofs.Common.{subst}
use Rattle.turns.specs.Acts.{IsSettled}
use Rattle.edge_rule.specs.DeskView.{DeskView, known}
use Rattle.edge_rule.proofs.desk.Desk.is_settled.Goals as goal

pub returns : goal.returns
returns g c = λ is. subst (λ (z : DeskView). IsSettled z.plan (known z) z.job) c.self.view_is (c.self.invariant.settled is)
