use Rattle.std.proofs.Common.{arith, ◌∙◌, sym}
use Rattle.measured_orders.proofs.Ordered.{is_in_order, of_plan, within}
use Rattle.measured_orders.proofs.trial.in_order.Goals as goal

pub moved-requires : goal.moved-requires
moved-requires g c = within c.args.plan.now c.args.order.now c.requires

pub has_jobs_of-requires : goal.has_jobs_of-requires
has_jobs_of-requires g c = of_plan c.args.plan.now c.args.order.now c.requires

pub returns : goal.returns
returns g c =
    let text = c.in-Some.text in
    let moves = (rw c.in-Some.is at c.in_ok-made.ensures) in
    let means = (rw c.in-Some-read.is at c.in_ok-read.ensures) in
    is_in_order c.args.plan.now c.in-Some-read.other c.args.limit c.args.script.now c.args.order.now text.items c.deref.result.now c.in_ok-measure.measure c.requires moves
    (omega (arith, c.if-len-gt-MOST_BYTES.false)) c.deref.ensures.value means (sym c.version.ensures ∙ c.if-version.false ∙ c.version-2.ensures)
    (c.has_jobs_of.ensures.0 c.if-not-has_jobs_of.false) c.in_ok-measure.ensures
