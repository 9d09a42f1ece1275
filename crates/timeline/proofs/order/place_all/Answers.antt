use Rattle.std.proofs.Common.{ℕ, ◌+◌, Bool, List, false, set, arith, ap, subst, sym}
use Rattle.std.specs.Prelude.{IfSome, count_by}
use Rattle.lab_plan.specs.Limits.{most_commands}
use Rattle.timeline.specs.Orders.{IsOpen, IsBehind, Placed}
use Rattle.timeline.proofs.Marked.{open_within}
use Rattle.timeline.proofs.OneByOne.{placed_next, placed_inside, count_unset}
use Rattle.timeline.proofs.order.place_all.Goals as goal

pub place_slot-requires-clause-left : goal.place_slot-requires-clause-left
place_slot-requires-clause-left g c =
    let pairs = c.args.pairs.now in
    let found = subst (λ o. IfSome o (λ y. IsOpen c.deref.result.now y × ¬ IsBehind pairs c.deref.result.now y)) c.in-Some.is c.in_ok-slot.ensures.some in
    open_within c.places.left.items c.in-Some.slot (subst (λ left. IsOpen left c.in-Some.slot) c.deref.ensures.value found.0)

pub place_slot-requires-clause-spans : goal.place_slot-requires-clause-spans
place_slot-requires-clause-spans g c =
    let pairs = c.args.pairs.now in
    let found = subst (λ o. IfSome o (λ y. IsOpen c.deref.result.now y × ¬ IsBehind pairs c.deref.result.now y)) c.in-Some.is c.in_ok-slot.ensures.some in
    placed_inside pairs c.places.left.items c.places.spans.items c.places.columns c.in-Some.slot
    (subst (λ left. IsOpen left c.in-Some.slot) c.deref.ensures.value found.0) c.places.invariant

pub places-preserved : goal.places-preserved
places-preserved g c =
    let pairs = c.args.pairs.now in
    let left = c.places.left.items in
    let spans = c.places.spans.items in
    let columns = c.places.columns in
    let slot = c.in-Some.slot in
    let found = subst (λ o. IfSome o (λ y. IsOpen c.deref.result.now y × ¬ IsBehind pairs c.deref.result.now y)) c.in-Some.is c.in_ok-slot.ensures.some in
    let here = subst (λ l. IsOpen l slot × ¬ IsBehind pairs l slot) c.deref.ensures.value found in
    let next = placed_next pairs left spans columns slot c.requires.pairs here.0 here.1 c.places.invariant in
    subst (λ l. Placed pairs l c.place_slot.new.spans.items (columns + most_commands)) (sym c.place_slot.ensures.left)
    (subst (λ s. Placed pairs (set left slot false) s (columns + most_commands)) (sym c.place_slot.ensures.spans) next)

pub places-smaller : goal.places-smaller
places-smaller g c =
    let pairs = c.args.pairs.now in
    let found = subst (λ o. IfSome o (λ y. IsOpen c.deref.result.now y × ¬ IsBehind pairs c.deref.result.now y)) c.in-Some.is c.in_ok-slot.ensures.some in
    let one = count_unset c.places.left.items c.in-Some.slot (subst (λ left. IsOpen left c.in-Some.slot) c.deref.ensures.value found.0) in
    let same = ap (λ (l : List Bool). count_by (λ b. b) l) c.place_slot.ensures.left in
    omega (arith, one, same)

pub returns-clause-stuck : goal.returns-clause-stuck
returns-clause-stuck g c =
    let pairs = c.args.pairs.now in
    subst (λ l. (y : ℕ) → IsOpen l y → IsBehind pairs l y) c.deref.ensures.value (c.in_ok-slot.ensures.none c.in_default.is)
