use Rattle.std.proofs.Common.{◌<◌, length, arith, rules}
use Rattle.interleaving.proofs.StepsLemmas.{step_events_length}
use Rattle.lab_journal.proofs.Replayed.{line_at}
use Rattle.lab_journal.proofs.resuming.take_steps.Goals as goal

pub offset_bounds-steps-place : goal.offset_bounds-steps-place
offset_bounds-steps-place g c =
    let inside : c.in-Err.place < length c.args.steps.now =
    omega (arith, c.in-Err.ensures.0.inside, step_events_length c.args.world.now.plan c.args.world.now.state c.args.steps.now) in
    search rules

pub bounds-steps-place-in-Err : goal.bounds-steps-place-in-Err
bounds-steps-place-in-Err g c = omega (arith, c.in-Err.ensures.0.inside, step_events_length c.args.world.now.plan c.args.world.now.state c.args.steps.now)

pub bounds-steps-place : goal.bounds-steps-place
bounds-steps-place g c = omega (arith, c.in-Err.ensures.0.inside, step_events_length c.args.world.now.plan c.args.world.now.state c.args.steps.now)

pub returns-in-Err : goal.returns-in-Err
returns-in-Err g c =
    let inside : c.in-Err.place < length c.args.steps.now =
    omega (arith, c.in-Err.ensures.0.inside, step_events_length c.args.world.now.plan c.args.world.now.state c.args.steps.now) in
    (c.in-Err.place, c.in-Err.ensures.0, line_at c.args.steps.now c.in-Err.place c.index-steps-place.result inside)
