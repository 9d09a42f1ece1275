use Rattle.std.proofs.Common.{arith, sym, ◌∙◌}
use Rattle.arranged_scripts.proofs.Arranged.{within, other_blocks, unfit, judged, unread, arranged_as}
use Rattle.arranged_scripts.proofs.judged.arranged_script.Goals as goal

pub order_of-requires : goal.order_of-requires
order_of-requires g c = omega (arith, c.in_ok-colouring.ensures.colouring.one_each, c.jobs.ensures.plan.draft.few_jobs)

pub moved-requires : goal.moved-requires
moved-requires g c =
    let made = c.in_ok-colouring.colouring in
    within c.args.plan.now made.colours c.deref-2.result.now made.count c.in_ok-colouring.ensures.colouring (c.deref-2.ensures.value ∙ c.in_ok-order.ensures)

pub returns-in_default : goal.returns-in_default
returns-in_default g c =
    let others = (rw c.in_default.is at c.in_ok-made.ensures) in
    other_blocks c.args.plan.now c.in_ok-colouring.colouring c.args.input.now c.deref.result.now c.deref-2.result.now c.in_ok-colouring.ensures.colouring
    c.in_ok-colouring.ensures.greedy (c.deref.ensures.value ∙ c.in_ok-whole.ensures) (c.deref-2.ensures.value ∙ c.in_ok-order.ensures) others

pub returns-in_default-read : goal.returns-in_default-read
returns-in_default-read g c =
    let made = c.in_ok-colouring.colouring in
    let text = c.in-Some.text in
    let moves = (rw c.in-Some.is at c.in_ok-made.ensures) in
    let none = (rw c.in_default-read.is at c.in_ok-read.ensures) in
    unfit c.args.plan.now made c.args.input.now c.deref.result.now c.deref-2.result.now text.items c.in_ok-colouring.ensures.colouring
    c.in_ok-colouring.ensures.greedy (c.deref.ensures.value ∙ c.in_ok-whole.ensures) (c.deref-2.ensures.value ∙ c.in_ok-order.ensures) moves
    (unread c.args.plan.now made text.items c.deref-3.result.now c.deref-3.ensures.value none)

pub returns-then-not-is_arrangement : goal.returns-then-not-is_arrangement
returns-then-not-is_arrangement g c =
    let made = c.in_ok-colouring.colouring in
    let text = c.in-Some.text in
    let moves = (rw c.in-Some.is at c.in_ok-made.ensures) in
    let means = (rw c.in-Some-read.is at c.in_ok-read.ensures) in
    unfit c.args.plan.now made c.args.input.now c.deref.result.now c.deref-2.result.now text.items c.in_ok-colouring.ensures.colouring
    c.in_ok-colouring.ensures.greedy (c.deref.ensures.value ∙ c.in_ok-whole.ensures) (c.deref-2.ensures.value ∙ c.in_ok-order.ensures) moves
    (judged c.one_meaning.ensures.plan c.args.plan.now c.in-Some-read.other made text.items c.deref-3.result.now c.deref-3.ensures.value means
    (λ is. absurd (cc (sym c.if-not-is_arrangement.true ∙ c.is_arrangement.ensures.1 is))))

pub returns : goal.returns
returns g c =
    let text = c.in-Some.text in
    let moves = (rw c.in-Some.is at c.in_ok-made.ensures) in
    let means = (rw c.in-Some-read.is at c.in_ok-read.ensures) in
    arranged_as c.args.plan.now c.in-Some-read.other c.in_ok-colouring.colouring c.args.input.now c.deref.result.now c.deref-2.result.now text.items
    c.deref-3.result.now c.in_ok-colouring.ensures.colouring c.in_ok-colouring.ensures.greedy (c.deref.ensures.value ∙ c.in_ok-whole.ensures) (c.deref-2.ensures.value ∙ c.in_ok-order.ensures)
    moves (omega (arith, c.if-len-gt-MOST_BYTES.false)) c.deref-3.ensures.value means (c.is_arrangement.ensures.0 c.if-not-is_arrangement.false)
