use Rattle.std.proofs.Common.{◌≡◌, ℕ, ◌+◌, length, Option, sym, subst, arith}
use Rattle.bay_book.specs.Moments.{limit_due_at}
use Rattle.bay_book.proofs.Least.{LeastTo, one_more_least, all_least}
use Rattle.bay_book.proofs.finding.limit_due.Goals as goal

pub loop-place-preserved : goal.loop-place-preserved
loop-place-preserved c =
    let l = c.loop-place in let asks = c.args.asks.now in
    subst (λ (o : Option ℕ). LeastTo (limit_due_at c.args.wanted c.args.full) asks (l.place + 1) o) (sym c.sooner-least.ensures)
    (one_more_least (limit_due_at c.args.wanted c.args.full) asks l.place l.least c.limit_due_at.result c.limit_due_at.ensures l.invariant)

pub returns : goal.returns
returns c =
    let l = c.loop-place in
    let all : l.place ≡ length c.args.asks.now = omega (arith, c.loop-place-test.false, l.auto.place-end) in
    all_least (limit_due_at c.args.wanted c.args.full) c.args.asks.now l.place l.least all l.invariant
