use Rattle.std.proofs.Common.{◌<◌, ◌≤◌, length, arith, subst}
use Rattle.legal_steps.specs.Steps.{step_events}
use Rattle.interleaving.proofs.StepsLemmas.{steps_of, step_events_length, event_here}
use Rattle.round_trace.specs.Doing.{Tries}
use Rattle.round_trace.proofs.Taken.{taken_more, stops_there, all_taken}
use Rattle.round_trace.proofs.going_on.take_all.Goals as goal

pub returns-then-not-done : goal.returns-then-not-done
returns-then-not-done g c =
    let w = c.args.world.now in
    let lines = c.args.steps.now in
    let before = c.loop-line.invariant in
    let inside : c.loop-line.line-index < length (step_events w.plan w.state (steps_of lines)) =
    omega (arith, step_events_length w.plan w.state lines, c.loop-line-test.true) in
    stops_there w c.loop-line.world c.attempt.new.world (step_events w.plan w.state (steps_of lines)) c.loop-line.events.items c.attempt.new.events.items
    c.loop-line.line-index c.loop-line.place c.event_of-event.result before.at inside
    (event_here w.plan w.state lines c.loop-line.line-index c.line-item.result c.loop-line.world.state c.event_of-event.result
    c.loop-line-test.true c.line-item.is before.does.run.leads c.event_of-event.ensures) before.does
    (subst (λ done. Tries c.loop-line.world c.loop-line.events.items c.event_of-event.result done c.attempt.new.world c.attempt.new.events.items)
    c.if-not-done.true c.in_ok-done.ensures)

pub loop-line-preserved : goal.loop-line-preserved
loop-line-preserved g c =
    let w = c.args.world.now in
    let lines = c.args.steps.now in
    let before = c.loop-line.invariant in
    let inside : c.loop-line.line-index < length (step_events w.plan w.state (steps_of lines)) =
    omega (arith, step_events_length w.plan w.state lines, c.loop-line-test.true) in
    record {
      at = omega (arith, before.at);
      does = taken_more w c.loop-line.world c.attempt.new.world (step_events w.plan w.state (steps_of lines)) c.loop-line.events.items
          c.attempt.new.events.items c.loop-line.line-index c.event_of-event.result inside
          (event_here w.plan w.state lines c.loop-line.line-index c.line-item.result c.loop-line.world.state c.event_of-event.result
          c.loop-line-test.true c.line-item.is before.does.run.leads c.event_of-event.ensures) before.does
          (subst (λ done. Tries c.loop-line.world c.loop-line.events.items c.event_of-event.result done c.attempt.new.world c.attempt.new.events.items)
          c.if-not-done.false c.in_ok-done.ensures);
    }

pub returns : goal.returns
returns g c =
    let w = c.args.world.now in
    let lines = c.args.steps.now in
    let all : length (step_events w.plan w.state (steps_of lines)) ≤ c.loop-line.line-index =
    omega (arith, step_events_length w.plan w.state lines, c.loop-line-test.false) in
    all_taken w c.loop-line.world (step_events w.plan w.state (steps_of lines)) c.loop-line.events.items c.loop-line.line-index all
    c.loop-line.invariant.does
