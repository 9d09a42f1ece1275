use Rattle.std.proofs.Common.{◌≡◌, ◌∙◌, sym, ap, arith, set, length, List, add-one}
use Rattle.bay_line.specs.declared.wish.Wish.{Wish}
use Rattle.bay_line.specs.Wishes.{wish_at, passed_most}
use Rattle.bay_line.proofs.KeptOrder.{most_to, one_more, all_of}
use Rattle.bay_line.proofs.passing.pass_most.Goals as goal

pub loop-place-preserved : goal.loop-place-preserved
loop-place-preserved c =
    let l = c.loop-place in let m = c.args.most in let old = c.args.wishes.now in let k = l.place in
    ap (set l.wishes k) c.passed_most.ensures
    ∙ (ap (λ (x : List Wish). set x k (passed_most m (wish_at x k))) l.invariant
    ∙ (one_more m k old ∙ ap (λ j. most_to m j old) (sym (add-one k))))

pub returns : goal.returns
returns c =
    let l = c.loop-place in let m = c.args.most in let old = c.args.wishes.now in
    let all : l.place ≡ length old = omega (arith, c.loop-place-test.false, l.auto.wishes, l.auto.place-end) in
    l.invariant ∙ (ap (λ j. most_to m j old) all ∙ all_of m old)
