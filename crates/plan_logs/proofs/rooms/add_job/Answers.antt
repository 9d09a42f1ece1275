use Rattle.std.proofs.Common.{◌+◌, arith, ◌∙◌}
use Rattle.legal_steps.proofs.RoomShares.{first_on-more, first_on-le}
use Rattle.plan_logs.proofs.RoomLemmas.{job_all}
use Rattle.plan_logs.proofs.rooms.add_job.Goals as goal

pub add_session-requires-clause-few : goal.add_session-requires-clause-few
add_session-requires-clause-few g c = λ i h.
    let plan = c.args.plan.now in let n = c.loop-before.before in let j = c.args.job in
    let wide = c.requires.wide in
    let t = c.loop-before-test.true in
    let e = c.sessions-before-end.ensures.sessions in
    omega (arith, c.loop-before.invariant.each i (omega (arith, wide, h)), first_on-more plan i j n (omega (arith, t, e)), first_on-le plan i j (n + 1), c.requires.few i h)

pub loop-before-preserved : goal.loop-before-preserved
loop-before-preserved g c =
    let plan = c.args.plan.now in let n = c.loop-before.before in let j = c.args.job in
    let wide = c.requires.wide in
    let t = c.loop-before-test.true in
    let e = c.sessions-before-end.ensures.sessions in
    record {
      wide = c.add_session.ensures.wide ∙ c.loop-before.invariant.wide;
      each = λ i h. let w = c.loop-before.invariant.wide in
          omega (arith, c.add_session.ensures.each i (omega (arith, h, w)), c.loop-before.invariant.each i h, first_on-more plan i j n (omega (arith, t, e)));
    }

pub returns : goal.returns
returns g c =
    let plan = c.args.plan.now in let n = c.loop-before.before in let j = c.args.job in
    let t = c.loop-before-test.false in
    let a = c.loop-before.auto.before-end in
    let e = c.sessions-before-end.ensures.sessions in
    record {
      wide = c.loop-before.invariant.wide;
      each = λ i h. omega (arith, c.loop-before.invariant.each i h, job_all plan i j n (omega (arith, t, a, e)));
    }
