use Rattle.std.proofs.Common.{arith}
use Rattle.interleaving.proofs.WorldLemmas.{leads_more, leads_all, goes_more, goes_all, stops_here}
use Rattle.interleaving.proofs.world.World.replay.Goals as goal

pub loop-event-preserved : goal.loop-event-preserved
loop-event-preserved g c =
    let kept = c.loop-event.invariant in
    let stepped = c.in_default.ensures in
    record {
      done_all = omega arith;
      led = leads_more _ _ c.step.new.self c.args.events.now c.loop-event.event-index c.event-item.result
          (omega arith) c.event-item.is kept.led stepped.0 stepped.1 stepped.2 stepped.3;
      on = goes_more _ _ c.step.new.self c.args.events.now c.loop-event.event-index c.event-item.result (omega arith) c.event-item.is kept.on stepped.3;
    }

pub returns-in-Err : goal.returns-in-Err
returns-in-Err g c =
    let kept = c.loop-event.invariant in
    stops_here c.args.self.now c.loop-event.self c.step.new.self c.args.events.now c.loop-event.event-index c.loop-event.done
    c.event-item.result kept.done_all c.loop-event-test.true c.event-item.is kept.led kept.on c.in-Err.ensures.0 c.in-Err.ensures.1

pub returns : goal.returns
returns g c =
    let kept = c.loop-event.invariant in (
      omega (arith, kept.done_all, c.loop-event-test.false, c.loop-event.auto),
      leads_all c.args.self.now c.loop-event.self c.args.events.now c.loop-event.event-index kept.led c.loop-event-test.false,
      goes_all c.args.self.now c.loop-event.self c.args.events.now c.loop-event.event-index kept.on c.loop-event-test.false,
    )
