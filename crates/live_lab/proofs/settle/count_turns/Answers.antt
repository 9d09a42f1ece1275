use Rattle.std.proofs.Common.{◌≡◌, ◌+◌, ◌<◌, length, set, ap, subst, arith}
use Rattle.lab_plan.specs.LabPlan.{LabPlan}
use Rattle.live_lab.proofs.Bits.{in_either}
use Rattle.live_lab.proofs.Clocks.{at, IsCountedTo, one_counted, goes_on}
use Rattle.live_lab.proofs.Passed.{none_counted, still_counted, all_counted}
use Rattle.live_lab.proofs.settle.count_turns.Goals as goal

pub loop-job-init : goal.loop-job-init
loop-job-init g c =
    let next = c.next_of-job.ensures in (
      still_counted c.args.world.now c.args.waiting c.args.thirsty c.args.clocks.now 0 c.next_of-job.result c.args.clocks.now next.low next.passed
          (none_counted c.args.world.now c.args.waiting c.args.thirsty c.args.clocks.now),
      next.high,
      next.found,
    )

pub loop-job-preserved : goal.loop-job-preserved
loop-job-preserved g c =
    let w = c.args.world.now in let l = c.loop-job in let n = l.job in let old = c.args.clocks.now in let wait = c.args.waiting in let thirst = c.args.thirsty in
    let next = c.next_of-job-in-loop-job.ensures in
    let inside : n < length l.clocks =
    let a = l.auto.clocks in let b = c.requires in let d = c.loop-job-test.true in let e = c.jobs-jobs.ensures.jobs in
    let f = ap (λ (p : LabPlan). length p.jobs) c.plan.ensures.plan in omega (arith, a, b, d, e, f) in
    let is = goes_on w wait thirst old n (at l.clocks n) c.after_turn.result c.has.result c.job-phase.result (l.invariant.0.left n (omega arith)) c.has.ensures
    c.job-phase.ensures.phase (in_either wait thirst n (l.invariant.2 c.loop-job-test.true)) c.after_turn.ensures in (
      still_counted w wait thirst old (n + 1) c.next_of-job-in-loop-job.result (set l.clocks n c.after_turn.result) next.low next.passed
          (one_counted w wait thirst old n l.clocks c.after_turn.result inside is l.invariant.0),
      next.high,
      next.found,
    )

pub returns : goal.returns
returns g c =
    let l = c.loop-job in
    let all : l.job ≡ length c.args.world.now.plan.jobs =
    let a = l.invariant.1 in let b = c.loop-job-test.false in let d = c.jobs-jobs.ensures.jobs in
    let e = ap (λ (p : LabPlan). length p.jobs) c.plan.ensures.plan in omega (arith, a, b, d, e) in
    all_counted c.args.world.now c.args.waiting c.args.thirsty c.args.clocks.now l.clocks
    (subst (λ n. IsCountedTo c.args.world.now c.args.waiting c.args.thirsty c.args.clocks.now n l.clocks) all l.invariant.0)
