use Rattle.std.proofs.Common.{subst}
use Rattle.timeline.specs.Orders.{IsOpen}
use Rattle.timeline.proofs.Ready.{some_ready}
use Rattle.timeline.proofs.order.ready.Goals as goal

pub returns-clause-none : goal.returns-clause-none
returns-clause-none g c none y is = c.in_ok-behind.ensures.only y (subst (λ b. IsOpen b y) c.deref.ensures.value (c.first_ready.ensures.none none y is))

pub returns-clause-some : goal.returns-clause-some
returns-clause-some g c =
    some_ready c.args.pairs.now c.args.left.now c.deref.result.now c.in_ok-behind.behind.items c.first_ready.result c.deref.ensures.value c.in_ok-behind.ensures
    c.first_ready.ensures.some
