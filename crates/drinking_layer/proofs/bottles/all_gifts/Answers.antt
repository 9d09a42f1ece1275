use Rattle.std.proofs.Common.{Bool, subst}
use Rattle.legal_steps.specs.declared.event.Event.TheVariants.{GiveFork}
use Rattle.legal_steps.specs.Legal.{MayGiveBottle}
use Rattle.edge_rule.specs.DeskView.{DeskView, known}
use Rattle.turns.specs.Due.{after_if, IsGreatest}
use Rattle.drinking_layer.proofs.bottles.all_gifts.Goals as goal

pub returns : goal.returns
returns g c = let d : DeskView = c.args.desk.now in let w = c.with_bottles.ensures.with in
    subst (λ (b : Bool). IsGreatest d.plan c.args.edge c.with_bottles.result.give_bottles
    (MayGiveBottle d.plan (after_if d.plan b (GiveFork d.job c.args.edge) (known d)) d.job c.args.edge)) w.give_fork w.bottles.give_bottles
