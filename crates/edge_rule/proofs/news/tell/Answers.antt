use Rattle.std.proofs.Common.{arith, sym, ap, ◌∙◌, subst}
use Rattle.lab_plan.specs.LabPlan.{LabPlan}
use Rattle.turns.specs.History.{IsHistory}
use Rattle.one_history.specs.Grow.{hand_in}
use Rattle.edge_rule.specs.DeskView.{BenchView}
use Rattle.one_history.proofs.Seats.{notes}
use Rattle.edge_rule.proofs.ManyHands.{desk_still}
use Rattle.edge_rule.proofs.DeskSteps.{owned}
use Rattle.edge_rule.proofs.news.tell.Goals as goal

pub split_seat-requires : goal.split_seat-requires
split_seat-requires g0 c =
    let b = c.bench.inside in
    let d = c.desk.inside in
    let owns = owned b d _ _ c.bench.view_is c.desk.view_is c.requires.own in
    let words = c.bench.invariant.words in
    (owns.0, omega arith, notes b.table.shared.key.plan.value d.seat.id d.seat.me.0)

pub returns-clause-legal : goal.returns-clause-legal
returns-clause-legal g0 c =
    let b = c.bench.inside in
    let d = c.desk.inside in
    let owns = owned b d _ _ c.bench.view_is c.desk.view_is c.requires.own in
    let e = c.split_seat.ensures in
    let f = c.split_seat.result.me.0.front in
    subst (λ (z : LabPlan). IsHistory z f) (owns.1 ∙ ap (λ (z : BenchView). z.plan) c.bench.view_is)
    (subst (IsHistory (hand_in d.seat.me.0).plan) (sym (ap (λ m. m.0.front) e.4)) c.desk.invariant.at_rest.legal)

pub invariant_of-desk : goal.invariant_of-desk
invariant_of-desk g0 c = desk_still c.desk.inside c.split_seat.new.seat c.split_seat.ensures.2 c.desk.invariant
