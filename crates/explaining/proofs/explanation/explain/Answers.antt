use Rattle.std.proofs.Common.{◌<◌, length, arith, rules}
use Rattle.interleaving.proofs.StepsLemmas.{step_events_length}
use Rattle.explaining.proofs.Told.{told_all, told_refusal, not_legal, step_there}
use Rattle.explaining.proofs.explanation.explain.Goals as goal

pub returns-in-Ok-replay_steps : goal.returns-in-Ok-replay_steps
returns-in-Ok-replay_steps g c =
    told_all c.args.plan.now c.args.lines.now c.in-Ok.world c.replay_steps.new.self c.in-Ok-replay_steps.count _ c.in-Ok.ensures c.in-Ok-replay_steps.ensures.0
    c.in-Ok-replay_steps.ensures.1 c.in_ok-tell_end-in-Ok-replay_steps.ensures

pub offset_bounds-lines-place : goal.offset_bounds-lines-place
offset_bounds-lines-place g c =
    let inside : c.in-Err.place < length c.args.lines.now =
    omega (arith, c.in-Err.ensures.0.inside, step_events_length c.in-Ok.world.plan c.in-Ok.world.state c.args.lines.now) in
    search rules

pub bounds-lines-place : goal.bounds-lines-place
bounds-lines-place g c = omega (arith, c.in-Err.ensures.0.inside, step_events_length c.in-Ok.world.plan c.in-Ok.world.state c.args.lines.now)

pub tell_step-requires-clause-step : goal.tell_step-requires-clause-step
tell_step-requires-clause-step g c =
    let inside : c.in-Err.place < length c.args.lines.now =
    omega (arith, c.in-Err.ensures.0.inside, step_events_length c.in-Ok.world.plan c.in-Ok.world.state c.args.lines.now) in
    step_there c.args.plan.now c.args.lines.now c.in-Ok.world c.replay_steps.new.self c.in-Err.place _ c.in-Ok.ensures c.in-Err.ensures.1.same_plan c.requires
    inside c.index-lines-place.is

pub tell_step-requires-clause-refused : goal.tell_step-requires-clause-refused
tell_step-requires-clause-refused g c =
    let inside : c.in-Err.place < length c.args.lines.now =
    omega (arith, c.in-Err.ensures.0.inside, step_events_length c.in-Ok.world.plan c.in-Ok.world.state c.args.lines.now) in
    not_legal c.args.lines.now c.in-Ok.world c.replay_steps.new.self c.in-Err.place _ c.in-Err.ensures.0 c.in-Err.ensures.1 inside c.index-lines-place.is

pub returns : goal.returns
returns g c =
    let inside : c.in-Err.place < length c.args.lines.now =
    omega (arith, c.in-Err.ensures.0.inside, step_events_length c.in-Ok.world.plan c.in-Ok.world.state c.args.lines.now) in
    told_refusal c.args.plan.now c.args.lines.now c.in-Ok.world c.replay_steps.new.self c.in-Err.place c.index-lines-place.result _ c.in-Ok.ensures
    c.in-Err.ensures.0 c.in-Err.ensures.1 inside c.index-lines-place.is c.in_ok-tell_step-in-Err.ensures
