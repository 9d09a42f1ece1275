use Rattle.std.proofs.Common.{arith, length, ap, ◌∙◌}
use Rattle.lab_plan.specs.LabPlan.{edges, ends}
use Rattle.overtaking.specs.Ways.{HasNoBottleWay}
use Rattle.overtaking.proofs.EdgeEnds.{one_more_edge}
use Rattle.overtaking.proofs.way.any_bottle.Goals as goal

pub loop-number-preserved : goal.loop-number-preserved
loop-number-preserved g c =
    let w = c.args.world.now in
    one_more_edge w.plan (HasNoBottleWay w.plan w.state) c.loop-number.number c.ends-lower.result
    (c.ends-lower.ensures.ends ∙ ap (λ p. ends p c.loop-number.number) c.plan-in-loop-number.ensures.plan)
    c.loop-number.invariant c.in_default.ensures.none c.in_default-bottle_way.ensures.none

pub returns-clause-none : goal.returns-clause-none
returns-clause-none g c =
    λ j e own. c.loop-number.invariant j e
    (omega (arith, own.is_edge, c.edges-number-end.ensures.edges, ap (λ p. length (edges p)) c.plan.ensures.plan, c.loop-number-test.false)) own
