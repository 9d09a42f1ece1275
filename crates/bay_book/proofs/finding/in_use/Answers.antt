use Rattle.std.proofs.Common.{◌≡◌, length, arith}
use Rattle.bay_book.proofs.Bits.{none_in_use, one_more_in_use, all_in_use}
use Rattle.bay_book.proofs.finding.in_use.Goals as goal

pub loop-place-init : goal.loop-place-init
loop-place-init c = none_in_use c.args.asks.now

pub loop-place-preserved : goal.loop-place-preserved
loop-place-preserved c =
    let l = c.loop-place in one_more_in_use c.args.asks.now l.place l.set c.with_needs-set.result c.with_needs-set.ensures l.invariant

pub returns : goal.returns
returns c =
    let l = c.loop-place in
    let all : l.place ≡ length c.args.asks.now = omega (arith, c.loop-place-test.false, l.auto.place-end) in
    all_in_use c.args.asks.now l.place l.set all l.invariant
