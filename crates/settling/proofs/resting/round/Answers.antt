use Rattle.std.proofs.Common.{◌≡◌, ◌+◌, ◌<◌, length, sym, ap, subst, arith}
use Rattle.lab_plan.specs.LabPlan.{LabPlan}
use Rattle.legal_steps.specs.Legal.{IsJob}
use Rattle.interleaving.specs.World.{WorldView}
use Rattle.settling.specs.Left.{DueView}
use Rattle.settling.specs.Attending.{Attends}
use Rattle.settling.proofs.Rested.{jobs_none, jobs_same, jobs_more}
use Rattle.settling.proofs.resting.round.Goals as goal

pub next_due-job-requires-clause-jobs : goal.next_due-job-requires-clause-jobs
next_due-job-requires-clause-jobs g c =
    let a = c.jobs-jobs.ensures.jobs in let b = ap (λ (p : LabPlan). length p.jobs) c.plan.ensures.plan in let d = c.requires.of_plan.jobs_there in omega (arith, a, b, d)

pub loop-job-init : goal.loop-job-init
loop-job-init g c =
    let w : WorldView = c.args.world.now in let due : DueView = c.args.due.now in let next = c.next_due-job.ensures in
    (jobs_same w w due due 0 c.next_due-job.result 0 next.passed (jobs_none w due c.requires), omega arith, next.high, next.found)

pub attend-done-requires-clause-job : goal.attend-done-requires-clause-job
attend-done-requires-clause-job g c =
    let l = c.loop-job in
    subst (λ (p : LabPlan). IsJob p l.job) (sym l.invariant.0.alone.leads.same_plan)
    (let t = c.loop-job-test.true in let a = c.jobs-jobs.ensures.jobs in let b = ap (λ (p : LabPlan). length p.jobs) c.plan.ensures.plan in omega (arith, t, a, b))

pub next_due-job-requires-in-loop-job-clause-jobs : goal.next_due-job-requires-in-loop-job-clause-jobs
next_due-job-requires-in-loop-job-clause-jobs g c =
    let l = c.loop-job in
    let a = c.jobs-jobs.ensures.jobs in let b = ap (λ (p : LabPlan). length p.jobs) c.plan.ensures.plan in
    let d = c.attend-done.ensures.attends.marked.of_plan.jobs_there in
    let e = ap (λ (p : LabPlan). length p.jobs) c.attend-done.ensures.attends.alone.leads.same_plan in
    let f = ap (λ (p : LabPlan). length p.jobs) l.invariant.0.alone.leads.same_plan in omega (arith, a, b, d, e, f)

pub loop-job-preserved : goal.loop-job-preserved
loop-job-preserved g c =
    let w : WorldView = c.args.world.now in let due : DueView = c.args.due.now in let l = c.loop-job in let next = c.next_due-job-in-loop-job.ensures in
    let low = next.low in let some = c.attend-done.ensures.few in let before = l.invariant.1 in (
      jobs_same w c.attend-done.new.world due c.attend-done.new.due (l.job + 1) c.next_due-job-in-loop-job.result (l.done + c.attend-done.result) next.passed
          (jobs_more w l.world c.attend-done.new.world due l.due c.attend-done.new.due l.job l.done c.attend-done.result l.invariant.0 c.attend-done.ensures.attends),
      omega (arith, low, some, before),
      next.high,
      next.found,
    )

pub returns-clause-attends : goal.returns-clause-attends
returns-clause-attends g c =
    let w : WorldView = c.args.world.now in let l = c.loop-job in
    let all : l.job ≡ length w.plan.jobs =
    let a = l.invariant.2 in let b = c.loop-job-test.false in let d = c.jobs-jobs.ensures.jobs in
    let e = ap (λ (p : LabPlan). length p.jobs) c.plan.ensures.plan in omega (arith, a, b, d, e) in
    subst (λ n. Attends (λ k. k < n) w c.args.due.now l.done l.world l.due) all l.invariant.0

pub returns-clause-few : goal.returns-clause-few
returns-clause-few g c =
    let l = c.loop-job in
    let a = l.invariant.1 in let b = l.invariant.2 in let d = c.jobs-jobs.ensures.jobs in let e = c.jobs-jobs.ensures.plan.draft.few_jobs in omega (arith, a, b, d, e)
