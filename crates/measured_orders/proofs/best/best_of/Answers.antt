use Rattle.std.proofs.Common.{◌∙◌, ap, false, sym, true}
use Rattle.std.proofs.lemmas.Result.{IfOk-weaker}
use Rattle.measured_orders.specs.Measures.{is_better}
use Rattle.measured_orders.specs.Orders.{IsBestOf, IsClimbed, TriedView}
use Rattle.measured_orders.proofs.Better.{as_viewed}
use Rattle.measured_orders.proofs.Picked.{from_other, from_own}
use Rattle.measured_orders.proofs.best.best_of.Goals as goal

pub returns-then-is_better : goal.returns-then-is_better
returns-then-is_better g c =
    let better = as_viewed true c.other.inside.measure c.args.other.measure c.own.inside.measure c.args.own.measure
    (ap (λ (t : TriedView). t.measure) c.other.view_is) (ap (λ (t : TriedView). t.measure) c.own.view_is) (sym c.is_better.ensures ∙ c.if-is_better.true) in
    IfOk-weaker c.climbed.result (λ best. IsClimbed c.args.plan.now c.args.limit c.args.script.now c.args.other best)
    (λ best. IsBestOf c.args.plan.now c.args.limit c.args.script.now c.args.own c.args.other best)
    (λ best is. from_other c.args.plan.now c.args.limit c.args.script.now c.args.own c.args.other best better is)
    c.climbed.ensures

pub returns : goal.returns
returns g c =
    let worse = as_viewed false c.other.inside.measure c.args.other.measure c.own.inside.measure c.args.own.measure
    (ap (λ (t : TriedView). t.measure) c.other.view_is) (ap (λ (t : TriedView). t.measure) c.own.view_is) (sym c.is_better.ensures ∙ c.if-is_better.false) in
    IfOk-weaker c.climbed-2.result (λ best. IsClimbed c.args.plan.now c.args.limit c.args.script.now c.args.own best)
    (λ best. IsBestOf c.args.plan.now c.args.limit c.args.script.now c.args.own c.args.other best)
    (λ best is. from_own c.args.plan.now c.args.limit c.args.script.now c.args.own c.args.other best worse is)
    c.climbed-2.ensures
