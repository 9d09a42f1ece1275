use Rattle.std.proofs.Common.{◌≡◌, get_or, ap, sym, ◌∙◌, subst, arith}
use Rattle.std.proofs.lemmas.List.{get_or_read}
use Rattle.legal_steps.specs.State.{Seat, IsOwn, phase}
use Rattle.legal_steps.specs.declared.phase.JobState.{JobState}
use Rattle.one_history.specs.Grow.{hand_in}
use Rattle.edge_rule.specs.DeskView.{DeskView, known}
use Rattle.edge_rule.specs.NeededBottles.{AreNeededIn}
use Rattle.edge_rule.proofs.DeskSteps.{of_seat}
use Rattle.edge_rule.proofs.desk.Desk.needed.Goals as goal

pub index-requires : goal.index-requires
index-requires g c =
    let d = c.self.inside in
    let own = of_seat (λ (z : DeskView). IsOwn z.plan z.job c.args.edge) d _ c.self.view_is c.requires in
    let there = own.is_edge in
    let wide = c.self.invariant.needed.wide in
    let same = d.needed.ok.0 in
    let at = c.number.ensures.0 in
    omega arith

pub returns : goal.returns
returns g c =
    let d = c.self.inside in
    let e = c.args.edge in
    let own = of_seat (λ (z : DeskView). IsOwn z.plan z.job e) d _ c.self.view_is c.requires in
    let there = own.is_edge in
    let wide = c.self.invariant.needed.wide in
    let at = c.number.ensures.0 in
    let is : c.index.result.now ≡ get_or d.needed.items e 0 =
    get_or_read d.needed.items _ _ (omega arith) c.index.ensures 0 ∙ ap (λ k. get_or d.needed.items k 0) at in
    let set_is = subst (AreNeededIn (hand_in d.seat.me.0).plan (hand_in d.seat.me.0).job d.phase e) (sym is) (c.self.invariant.needed.each e own) in
    subst (λ (z : DeskView). AreNeededIn z.plan z.job (phase (known z) z.job) e c.index.result.now) c.self.view_is
    (subst (λ (x : JobState). AreNeededIn (hand_in d.seat.me.0).plan (hand_in d.seat.me.0).job x e c.index.result.now)
    (sym (ap (λ (y : Seat). y.phase) c.self.invariant.own)) set_is)
