use Rattle.std.proofs.Common.{None, [], ◌∷◌, refl, sym, ◌∙◌, subst, length-set}
use Rattle.legal_steps.specs.declared.event.Event.TheVariants.{Thirst, Withdraw}
use Rattle.settling.specs.Left.{IsBySelf}
use Rattle.late_thirst.specs.Outside.{LineView}
use Rattle.live_lab.specs.Labs.{IsLineOf}
use Rattle.live_lab.proofs.InLab.{in_lab}
use Rattle.live_lab.proofs.lab.Lab.skip_of.Goals as goal

pub invariant_of-self : goal.invariant_of-self
invariant_of-self c =
    let x = c.self.inside in let j = c.args.job in
    in_lab x.world c.begin_and_give_up.new.world x.clocks.items x.clocks.items c.leave.new.self (Thirst j ∷ Withdraw j ∷ []) (IsBySelf j) c.plan.result.now
    x.due c.wake_self.new.due c.begin_and_give_up.ensures ((refl, tt), ((refl, tt), tt)) c.wake_self.ensures.keeps c.plan.ensures.plan refl
    (c.self.invariant.0, c.self.invariant.1, subst (λ (l : LineView). IsLineOf x.world l) (sym c.leave.ensures) (length-set x.line.places _ None ∙ c.self.invariant.2))
