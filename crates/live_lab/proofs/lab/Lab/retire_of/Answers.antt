use Rattle.std.proofs.Common.{[], refl}
use Rattle.legal_steps.specs.declared.event.Event.TheVariants.{Retire}
use Rattle.edge_word.specs.Moves.{on}
use Rattle.settling.specs.Left.{IsBySelf}
use Rattle.live_lab.proofs.Lists.{self_on}
use Rattle.live_lab.proofs.InLab.{in_lab, lab_on, line_on, both_on, not_done}
use Rattle.live_lab.proofs.lab.Lab.retire_of.Goals as goal

pub invariant_of-self : goal.invariant_of-self
invariant_of-self c =
    let x = c.self.inside in let j = c.args.job in let r = c.come_to_rest-done.ensures.rests in let mid = c.come_to_rest-done.new.world in
    let did = c.attempt-did.result in
    in_lab mid c.attempt-did.new.world x.clocks.items x.clocks.items x.line (on did (Retire j) []) (IsBySelf j) c.plan.result.now c.come_to_rest-done.new.due
    c.wake_self.new.due c.attempt-did.ensures.leads (self_on j did (Retire j) (refl, tt)) c.wake_self.ensures.keeps c.plan.ensures.plan refl (
      lab_on x.world x.clocks.items x.clocks.items mid (r.events, r.rests.leads) refl c.self.invariant.0,
      c.come_to_rest-done.ensures.marked,
      line_on x.world mid x.line (r.events, r.rests.leads) c.self.invariant.2,
    )

pub invariant_of-self-else-did : goal.invariant_of-self-else-did
invariant_of-self-else-did c =
    let x = c.self.inside in let j = c.args.job in let r = c.come_to_rest-done.ensures.rests in let mid = c.come_to_rest-done.new.world in
    let did = c.attempt-did.result in let new = c.attempt-did.new.world in (
      lab_on x.world x.clocks.items x.clocks.items new (both_on x.world mid new (r.events, r.rests.leads) (on did (Retire j) [], c.attempt-did.ensures.leads)) refl
          c.self.invariant.0,
      not_done mid new did (Retire j) c.come_to_rest-done.new.due c.if-did.false c.attempt-did.ensures.leads c.come_to_rest-done.ensures.marked,
      line_on x.world new x.line (both_on x.world mid new (r.events, r.rests.leads) (on did (Retire j) [], c.attempt-did.ensures.leads)) c.self.invariant.2,
    )
