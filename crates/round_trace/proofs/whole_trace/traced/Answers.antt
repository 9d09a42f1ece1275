use Rattle.round_trace.proofs.Taken.{from_start}
use Rattle.round_trace.proofs.whole_trace.traced.Goals as goal

pub returns : goal.returns
returns g c =
    from_start c.args.plan.now c.args.limit c.args.world.now c.new-events.result.items c.play.new.events.items c.in_ok-_retired._retired c.requires
    c.new-events.ensures.items c.in_ok-_retired.ensures
