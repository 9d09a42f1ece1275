use Rattle.std.proofs.Common.{ap, ◌∙◌}
use Rattle.lab_plan.specs.LabPlan.{ends}
use Rattle.overtaking.specs.Ways.{HasNoForkWay}
use Rattle.overtaking.proofs.EdgeEnds.{one_more_edge}
use Rattle.overtaking.proofs.way.any_fork.Goals as goal

pub loop-number-preserved : goal.loop-number-preserved
loop-number-preserved g c =
    let w = c.args.world.now in
    one_more_edge w.plan (HasNoForkWay w.plan w.state) c.loop-number.number c.ends-lower.result
    (c.ends-lower.ensures.ends ∙ ap (λ p. ends p c.loop-number.number) c.plan-in-loop-number.ensures.plan)
    c.loop-number.invariant c.in_default.ensures.none c.in_default-fork_way.ensures.none
