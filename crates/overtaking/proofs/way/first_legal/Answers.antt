use Rattle.std.proofs.Common.{sym, subst}
use Rattle.overtaking.specs.Stuck.{IsMove}
use Rattle.overtaking.proofs.Worlds.{world_move}
use Rattle.overtaking.proofs.way.first_legal.Goals as goal

pub returns-then-enabled-clause-leads_on : goal.returns-then-enabled-clause-leads_on
returns-then-enabled-clause-leads_on g c =
    world_move _ _ _ c.event-item.result c.plan.ensures.reached
    (subst IsMove (sym c.event-item.is) (c.requires _ _ c.loop-event-test.true)) (c.enabled.ensures.0 c.if-enabled.true)
