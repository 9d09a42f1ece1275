use Rattle.std.proofs.Common.{◌+◌, ◌<◌, length, set, length-set, None, arith}
use Rattle.late_thirst.proofs.Passing.{one_more}
use Rattle.late_thirst.proofs.Among.{still_passed}
use Rattle.late_thirst.proofs.entries.go_in.Goals as goal

pub loop-other-preserved : goal.loop-other-preserved
loop-other-preserved c =
    let l = c.loop-other in let next = c.next_of-other-in-loop-other.ensures in
    let inside : l.other < length l.places = let a = l.auto.places in let b = c.loop-other-test.true in let e = length-set c.args.places.now c.args.job None in omega (arith, a, b, e) in (
      still_passed c.args.most c.args.ready c.needs_of-needs.result c.args.job c.args.places.now (l.other + 1) c.next_of-other-in-loop-other.result
          (set l.places l.other c.passed_at.result) next.low next.passed
          (one_more c.args.most c.args.ready c.needs_of-needs.result c.args.job c.args.places.now l.other l.places c.passed_at.result inside c.passed_at.ensures l.invariant.0),
      next.high,
    )
