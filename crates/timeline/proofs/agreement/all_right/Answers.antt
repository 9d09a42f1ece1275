use Rattle.std.proofs.Common.{◌≡◌, true, refl, rules, tests}
use Rattle.timeline.proofs.OwnPairs.{right_more, right_all}
use Rattle.timeline.proofs.agreement.all_right.Goals as goal

pub loop-x-preserved : goal.loop-x-preserved
loop-x-preserved c =
    let holds : c.is_right.result ≡ true = search (rules, tests) in
    right_more c.args.spans.now c.args.pairs.now c.loop-x.x-index _ _ refl (c.is_right.ensures holds) c.loop-x.invariant

pub returns : goal.returns
returns c _ = right_all c.args.spans.now c.args.pairs.now c.loop-x.x-index c.loop-x-test.false c.loop-x.invariant
