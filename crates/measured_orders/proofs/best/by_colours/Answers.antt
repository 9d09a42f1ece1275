use Rattle.std.proofs.lemmas.Result.{IfOk-weaker}
use Rattle.arranging.specs.Colours.{in_order}
use Rattle.std.proofs.Common.{◌≡◌}
use Rattle.measured_orders.specs.Orders.{IsOrder}
use Rattle.measured_orders.proofs.Ordered.{colour_order}
use Rattle.measured_orders.proofs.best.by_colours.Goals as goal

pub returns : goal.returns
returns g c =
    let made = c.in_ok-colouring.colouring in
    IfOk-weaker c.order_of.result (λ order. order.items ≡ in_order made.colours made.count) (λ order. IsOrder c.args.plan.now order.items)
    (λ order is. colour_order c.args.plan.now made.colours made.count order.items c.in_ok-colouring.ensures.colouring is) c.order_of.ensures
