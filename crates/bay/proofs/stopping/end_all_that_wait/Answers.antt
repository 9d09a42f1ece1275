use Rattle.std.proofs.Common.{◌≡◌, length, add-one, sym, subst, ◌∙◌, arith}
use Rattle.bay.specs.Cores.{core}
use Rattle.bay.specs.Stopping.{StopsTo}
use Rattle.bay.proofs.Stops.{as_many}
use Rattle.bay.proofs.stopping.end_all_that_wait.Goals as goal

pub end_if_it_waits-requires-clause-inside : goal.end_if_it_waits-requires-clause-inside
end_if_it_waits-requires-clause-inside c =
    let l = c.loop-place in let many = l.invariant.many in omega (arith, c.loop-place-test.true, c.len-place-end.ensures, many)

pub loop-place-preserved : goal.loop-place-preserved
loop-place-preserved c =
    let l = c.loop-place in let first = core c.args.line.now c.args.book.now in let x = core l.line l.book in
    let y = core c.end_if_it_waits.new.line c.end_if_it_waits.new.book in
    record {
      stops = subst (λ n. StopsTo c.args.now n first y) (sym (add-one l.place)) (x, l.invariant.stops, c.end_if_it_waits.ensures.stops);
      tied = c.end_if_it_waits.ensures.tied;
      many = as_many c.args.now l.place x y c.end_if_it_waits.ensures.stops ∙ l.invariant.many;
    }

pub returns : goal.returns
returns c =
    let l = c.loop-place in
    let all : l.place ≡ length c.args.book.now.asks = omega (arith, c.loop-place-test.false, l.auto.place-end, c.len-place-end.ensures) in
    record { stops = subst (λ n. StopsTo c.args.now n (core c.args.line.now c.args.book.now) (core l.line l.book)) all l.invariant.stops; tied = l.invariant.tied }
