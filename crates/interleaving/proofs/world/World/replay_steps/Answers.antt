use Rattle.std.proofs.Common.{◌<◌, length, arith}
use Rattle.legal_steps.specs.Steps.{step_events}
use Rattle.interleaving.proofs.StepsLemmas.{steps_of, step_events_length, event_here}
use Rattle.interleaving.proofs.WorldLemmas.{leads_more, leads_all, goes_more, goes_all, stops_here}
use Rattle.interleaving.proofs.world.World.replay_steps.Goals as goal

pub returns-in-Err : goal.returns-in-Err
returns-in-Err g c =
    let w = c.args.self.now in
    let lines = c.args.steps.now in
    let events = step_events w.plan w.state (steps_of lines) in
    let kept = c.loop-line.invariant in
    let is = event_here w.plan w.state lines c.loop-line.line-index c.line-item.result c.loop-line.self.state
    c.event_of-event.result c.loop-line-test.true c.line-item.is kept.led.run.leads c.event_of-event.ensures in
    let inside : c.loop-line.line-index < length events = omega (arith, step_events_length w.plan w.state lines, c.loop-line-test.true) in
    stops_here w c.loop-line.self c.step.new.self events c.loop-line.line-index c.loop-line.done
    c.event_of-event.result kept.done_all inside is kept.led kept.on c.in-Err.ensures.0 c.in-Err.ensures.1

pub loop-line-preserved : goal.loop-line-preserved
loop-line-preserved g c =
    let w = c.args.self.now in
    let lines = c.args.steps.now in
    let events = step_events w.plan w.state (steps_of lines) in
    let kept = c.loop-line.invariant in
    let is = event_here w.plan w.state lines c.loop-line.line-index c.line-item.result c.loop-line.self.state
    c.event_of-event.result c.loop-line-test.true c.line-item.is kept.led.run.leads c.event_of-event.ensures in
    let inside : c.loop-line.line-index < length events = omega (arith, step_events_length w.plan w.state lines, c.loop-line-test.true) in
    let stepped = c.in_default.ensures in
    record {
      done_all = omega arith;
      led =
          leads_more w c.loop-line.self c.step.new.self events c.loop-line.line-index c.event_of-event.result inside is kept.led stepped.0 stepped.1 stepped.2
          stepped.3;
      on = goes_more w c.loop-line.self c.step.new.self events c.loop-line.line-index c.event_of-event.result inside is kept.on stepped.3;
    }

pub returns : goal.returns
returns g c =
    let w = c.args.self.now in
    let lines = c.args.steps.now in
    let events = step_events w.plan w.state (steps_of lines) in
    let kept = c.loop-line.invariant in
    let count = step_events_length w.plan w.state lines in (
      omega (arith, count, kept.done_all, c.loop-line-test.false, c.loop-line.auto),
      leads_all w c.loop-line.self events c.loop-line.line-index kept.led (omega (arith, count, c.loop-line-test.false)),
      goes_all w c.loop-line.self events c.loop-line.line-index kept.on (omega (arith, count, c.loop-line-test.false)),
    )
