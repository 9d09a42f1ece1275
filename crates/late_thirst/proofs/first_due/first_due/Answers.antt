use Rattle.std.proofs.Common.{◌≡◌, ◌+◌, length, None, subst, arith}
use Rattle.late_thirst.specs.Outside.{IsFirst}
use Rattle.late_thirst.proofs.Among.{still_first}
use Rattle.late_thirst.proofs.first_due.first_due.Goals as goal

pub loop-job-init : goal.loop-job-init
loop-job-init c =
    let next = c.next_of-job.ensures in
    (still_first c.args.reason c.args.ready c.args.places.now 0 c.next_of-job.result None next.low next.passed (λ k under. absurd (omega (arith, under))), next.high)

pub loop-job-preserved : goal.loop-job-preserved
loop-job-preserved c =
    let l = c.loop-job in let next = c.next_of-job-in-loop-job.ensures in (
      still_first c.args.reason c.args.ready c.args.places.now (l.job + 1) c.next_of-job-in-loop-job.result c.pick-first.result next.low next.passed
          c.pick-first.ensures,
      next.high,
    )

pub returns : goal.returns
returns c =
    let l = c.loop-job in
    let all : l.job ≡ length c.args.places.now = let a = l.invariant.1 in let b = c.loop-job-test.false in omega (arith, a, b) in
    subst (λ n. IsFirst c.args.reason c.args.ready c.args.places.now n l.first) all l.invariant.0
