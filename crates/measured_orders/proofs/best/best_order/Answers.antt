use Rattle.std.proofs.Common.{◌∙◌, subst, sym}
use Rattle.arranged_scripts.specs.Arranged.{IsArranged}
use Rattle.measured_orders.specs.Orders.{IsBest, TriedView}
use Rattle.measured_orders.proofs.Picked.{is_best}
use Rattle.measured_orders.proofs.best.best_order.Goals as goal

pub returns-in_default : goal.returns-in_default
returns-in_default g c = (rw c.in_default.is at c.in_ok-made.ensures)

-- an arranged script is a script
pub returns-in_default-tried : goal.returns-in_default-tried
returns-in_default-tried g c =
    let none = (rw c.in_default-tried.is at c.in_ok-tried.ensures.none) in
    let arranged = (rw c.in-Some.is at c.in_ok-made.ensures) in
    absurd (none arranged.arranged arranged.read_back)

pub returns : goal.returns
returns g c =
    let other = c.in-Some-tried.other in
    let same = (rw c.in-Some-tried.is at c.in_ok-tried.ensures.same) in
    let ran = (rw c.in-Some-tried.is at c.in_ok-tried.ensures.ran) in
    let arranged = (rw c.in-Some.is at c.in_ok-made.ensures) in
    let before = c.in_ok-before.before in
    subst (λ (b : TriedView). IsBest c.args.plan.now c.args.limit c.args.input.now (record { text = b.text; gain = record { before = before; after = b.measure } }))
    (sym c.best.view_is) (is_best c.one_meaning.ensures.plan c.args.plan.now c.args.limit c.args.input.now c.deref.result.now
    (record { text = c.in_ok-from_slice.field-0.items; measure = before }) other c.in_ok-best.best
    c.in_ok-before.ensures c.in_ok-from_slice.ensures.items (subst (λ t. IsArranged c.args.plan.now c.args.input.now t) (sym same) arranged) ran
    (c.deref.ensures.value ∙ c.in_ok-script.ensures) c.in_ok-best.ensures)
