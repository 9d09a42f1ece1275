use Rattle.overtaking.specs.Stuck.{AllRetired}
use Rattle.overtaking.specs.Ways.{HasNoBottleWays}
use Rattle.overtaking.proofs.Worlds.{world_at_end}
use Rattle.overtaking.proofs.Ways.{none_gives}
use Rattle.overtaking.proofs.way.way_on.Goals as goal

pub returns-clause-end : goal.returns-clause-end
returns-clause-end g c =
    let w = c.args.world.now in
    none_gives (HasNoBottleWays w.plan w.state) (AllRetired w.plan w.state) c.any_bottle.result
    (λ bottles. world_at_end w.plan w.state w.counts c.plan.ensures.reached c.in_default.ensures.none c.in_default-any_fork.ensures.none bottles)
    c.any_bottle.ensures.none
