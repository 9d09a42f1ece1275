use Rattle.std.proofs.Common.{◌≡◌, ◌∙◌, sym, ap, arith, set, length, List, add-one}
use Rattle.bay_book.specs.declared.ask.Ask.{Ask}
use Rattle.bay_book.specs.Asks.{ask_at, turned}
use Rattle.bay_book.proofs.Giving.{turn_to, one_turned, all_turned}
use Rattle.bay_book.proofs.making.turn_all.Goals as goal

pub loop-place-preserved : goal.loop-place-preserved
loop-place-preserved c =
    let l = c.loop-place in let at = c.args.at in let old = c.args.asks.now in let k = l.place in
    ap (set l.asks k) c.turned.ensures
    ∙ (ap (λ (x : List Ask). set x k (turned at (ask_at x k))) l.invariant
    ∙ (one_turned at k old ∙ ap (λ j. turn_to at j old) (sym (add-one k))))

pub returns : goal.returns
returns c =
    let l = c.loop-place in let at = c.args.at in let old = c.args.asks.now in
    let all : l.place ≡ length old = omega (arith, c.loop-place-test.false, l.auto.asks, l.auto.place-end) in
    l.invariant ∙ (ap (λ j. turn_to at j old) all ∙ all_turned at old)
