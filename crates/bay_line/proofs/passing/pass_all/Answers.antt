use Rattle.std.proofs.Common.{◌≡◌, ◌∙◌, sym, ap, arith, set, length, List, add-one}
use Rattle.bay_line.specs.declared.wish.Wish.{Wish}
use Rattle.bay_line.specs.Wishes.{wish_at, passed_by}
use Rattle.bay_line.specs.Turns.{pass_to}
use Rattle.bay_line.proofs.PassedBy.{one_more, all_of}
use Rattle.bay_line.proofs.passing.pass_all.Goals as goal

pub loop-place-preserved : goal.loop-place-preserved
loop-place-preserved c =
    let l = c.loop-place in let m = c.args.most in let f = c.args.free in let n = c.args.needs in let old = c.args.wishes.now in let k = l.place in
    ap (set l.wishes k) c.passed_by.ensures
    ∙ (ap (λ (x : List Wish). set x k (passed_by m f n (wish_at x k))) l.invariant
    ∙ (one_more m f n k old ∙ ap (λ j. pass_to m f n j old) (sym (add-one k))))

pub returns : goal.returns
returns c =
    let l = c.loop-place in let m = c.args.most in let f = c.args.free in let n = c.args.needs in let old = c.args.wishes.now in
    let all : l.place ≡ length old = omega (arith, c.loop-place-test.false, l.auto.wishes, l.auto.place-end) in
    l.invariant ∙ (ap (λ j. pass_to m f n j old) all ∙ all_of m f n old)
