use Rattle.std.proofs.Common.{arith, ◌∙◌}
use Rattle.plan_logs.proofs.RoomLemmas.{all_more, all_next, all_is_room}
use Rattle.plan_logs.proofs.rooms.rooms.Goals as goal

pub add_job-requires-clause-few : goal.add_job-requires-clause-few
add_job-requires-clause-few g c = λ i h. let plan = c.args.plan.now in let n = c.loop-job.job in
    let t = c.loop-job-test.true in let e = c.jobs-job-end.ensures.jobs in
    omega (arith, c.loop-job.invariant.1 i h, all_next plan i n c.jobs-job-end.ensures.plan (omega (arith, t, e)))

pub loop-job-preserved : goal.loop-job-preserved
loop-job-preserved g c = let plan = c.args.plan.now in let n = c.loop-job.job in
    let w = c.loop-job.invariant.0 in (
      c.add_job.ensures.wide ∙ w,
      λ i h. omega (arith, c.add_job.ensures.each i (omega (arith, h, w)), c.loop-job.invariant.1 i h, all_more plan i n),
    )

pub returns : goal.returns
returns g c = let plan = c.args.plan.now in let n = c.loop-job.job in
    let t = c.loop-job-test.false in let a = c.loop-job.auto.job-end in let e = c.jobs-job-end.ensures.jobs in
    record {
      wide = c.loop-job.invariant.0;
      each = λ i h. c.loop-job.invariant.1 i h ∙ all_is_room plan i n (omega (arith, t, a, e));
    }
