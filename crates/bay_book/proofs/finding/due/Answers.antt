use Rattle.std.proofs.Common.{◌≡◌, ℕ, ◌+◌, length, Option, sym, subst, arith}
use Rattle.bay_book.specs.Moments.{due_at}
use Rattle.bay_book.proofs.Least.{LeastTo, one_more_least, all_least}
use Rattle.bay_book.proofs.finding.due.Goals as goal

pub loop-place-preserved : goal.loop-place-preserved
loop-place-preserved c =
    let l = c.loop-place in let asks = c.args.asks.now in
    subst (λ (o : Option ℕ). LeastTo (due_at c.args.grace c.args.durable c.args.disk) asks (l.place + 1) o) (sym c.sooner-least.ensures)
    (one_more_least (due_at c.args.grace c.args.durable c.args.disk) asks l.place l.least c.due_at.result c.due_at.ensures l.invariant)

pub returns : goal.returns
returns c =
    let l = c.loop-place in
    let all : l.place ≡ length c.args.asks.now = omega (arith, c.loop-place-test.false, l.auto.place-end) in
    all_least (due_at c.args.grace c.args.durable c.args.disk) c.args.asks.now l.place l.least all l.invariant
