use Rattle.std.proofs.Common.{◌<◌, ◌==◌, IsTrue, not, length, subst}
use Rattle.std.proofs.lemmas.Bool.{false≢true}
use Rattle.lab_plan.specs.LabPlan.{edges}
use Rattle.turns.specs.Due.{IsCalm}
use Rattle.edge_rule.specs.DeskView.{DeskView, known}
use Rattle.edge_rule.specs.CalmEdges.{no_word}
use Rattle.edge_rule.proofs.DeskSteps.{of_seat, noted_still}
use Rattle.edge_rule.proofs.desk.Desk.is_calm.Goals as goal

pub returns : goal.returns
returns g c = λ t. let d = c.self.inside in
    subst (λ (z : DeskView). IsCalm z.plan (known z) z.job c.args.edge) c.self.view_is
    (noted_still d c.self.invariant c.args.edge c.number.result c.index.result.now c.number.ensures.0
    (of_seat (λ (z : DeskView). c.args.edge < length (edges z.plan)) d _ c.self.view_is c.requires) c.index.ensures (λ none. false≢true (subst (λ w. IsTrue (not (w == no_word))) none t))).1.calm
