use Rattle.std.proofs.Common.{◌≡◌, ◌∙◌, sym, ap, arith, set, length, List, add-one}
use Rattle.bay_book.specs.declared.ask.Ask.{Ask}
use Rattle.bay_book.specs.Asks.{ask_at, given}
use Rattle.bay_book.proofs.Giving.{give_to, one_more, all_of}
use Rattle.bay_book.proofs.making.give_all.Goals as goal

pub loop-place-preserved : goal.loop-place-preserved
loop-place-preserved c =
    let l = c.loop-place in let at = c.args.at in let old = c.args.asks.now in let k = l.place in
    ap (set l.asks k) c.given.ensures
    ∙ (ap (λ (x : List Ask). set x k (given at (ask_at x k))) l.invariant
    ∙ (one_more at k old ∙ ap (λ j. give_to at j old) (sym (add-one k))))

pub returns : goal.returns
returns c =
    let l = c.loop-place in let at = c.args.at in let old = c.args.asks.now in
    let all : l.place ≡ length old = omega (arith, c.loop-place-test.false, l.auto.asks, l.auto.place-end) in
    l.invariant ∙ (ap (λ j. give_to at j old) all ∙ all_of at old)
