use Rattle.std.proofs.Common.{◌≡◌, ◌+◌, length, ap, subst, arith}
use Rattle.lab_plan.specs.LabPlan.{LabPlan}
use Rattle.lab_plan.specs.IsPlan.{IsPlan}
use Rattle.late_thirst.specs.Outside.{LineView, AreOutside}
use Rattle.live_lab.proofs.Asked.{AskedTo, one_more, all_asked}
use Rattle.live_lab.proofs.Passed.{none_asked, still_asked}
use Rattle.live_lab.proofs.ask.ask.Goals as goal

pub loop-job-init : goal.loop-job-init
loop-job-init g c =
    let next = c.next_of-job.ensures in (
      still_asked c.args.waiting c.outside.result c.args.world.now c.args.line.now 0 c.next_of-job.result c.count_call.new.self
          (subst (λ (p : LabPlan). IsPlan p) c.plan.ensures.plan c.jobs-jobs.ensures.plan)
          (subst (λ (l : LineView). AreOutside l.places c.outside.result) c.count_call.ensures c.outside.ensures) next.low next.passed
          (none_asked c.args.waiting c.args.world.now c.args.line.now c.count_call.new.self c.count_call.ensures),
      next.high,
    )

pub loop-job-preserved : goal.loop-job-preserved
loop-job-preserved g c =
    let l = c.loop-job in let next = c.next_of-job-in-loop-job.ensures in (
      still_asked c.args.waiting c.outside.result c.args.world.now c.args.line.now (l.job + 1) c.next_of-job-in-loop-job.result c.attend.new.line
          (subst (λ (p : LabPlan). IsPlan p) c.plan.ensures.plan c.jobs-jobs.ensures.plan)
          (subst (λ (l : LineView). AreOutside l.places c.outside.result) c.count_call.ensures c.outside.ensures) next.low next.passed
          (one_more c.args.waiting c.args.world.now c.args.line.now l.job l.line c.attend.new.line c.attend.ensures l.invariant.0),
      next.high,
    )

pub returns : goal.returns
returns g c =
    let l = c.loop-job in
    let all : l.job ≡ length c.args.world.now.plan.jobs =
    let a = l.invariant.1 in let b = c.loop-job-test.false in let d = c.jobs-jobs.ensures.jobs in
    let e = ap (λ (p : LabPlan). length p.jobs) c.plan.ensures.plan in omega (arith, a, b, d, e) in
    all_asked c.args.waiting c.args.world.now c.args.line.now l.line (subst (λ n. AskedTo c.args.waiting c.args.world.now c.args.line.now n l.line) all l.invariant.0)
