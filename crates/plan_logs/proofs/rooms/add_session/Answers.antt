use Rattle.std.proofs.Common.{◌≡◌, ℕ, ◌+◌, ◌<◌, ◌≤◌, length, slice_index_or, arith, sym, ap, ◌∙◌}
use Rattle.std.proofs.lemmas.List.{get_or_read}
use Rattle.lab_plan.specs.declared.verb.Verb.{Verb}
use Rattle.lab_plan.specs.declared.verb.Verb.TheVariants.{Read}
use Rattle.lab_plan.specs.LabPlan.{count_on}
use Rattle.plan_logs.proofs.RoomLemmas.{one_fits, added_more}
use Rattle.plan_logs.proofs.rooms.add_session.Goals as goal

pub overflow_add-index_mut : goal.overflow_add-index_mut
overflow_add-index_mut g c =
    let commands = c.commands-instrument-items.result.now in
    let k = c.loop-instrument.instrument-index in
    let old = c.args.rooms.now.items in
    let now = c.loop-instrument.rooms.items in
    let n = c.instrument.inside.0 in
    let x = c.index_mut.result.now in
    let before = c.loop-instrument.invariant in
    let within = c.loop-instrument-test.true in
    let wide = c.requires.wide in
    let named = c.commands-instrument-items.ensures.named k (0, Read) within in
    let command = sym (get_or_read commands k c.loop-instrument-item.result within c.loop-instrument-item.is (0, Read)) in
    let is : (slice_index_or commands k (0, Read)).0 ≡ n = ap (λ (command : ℕ × Verb). command.0) command ∙ sym c.instrument.view_is in
    let below : n < length old = omega (arith, named, is, wide) in
    let read : x ≡ slice_index_or now n 0 = get_or_read now n x (omega (arith, below, before.wide)) c.index_mut.ensures.value 0 in
    let fits : slice_index_or old n 0 + count_on n commands ≤ 100000 =
    omega (arith, c.requires.few n (omega (arith, below, wide)), ap (count_on n) c.commands-instrument-items.ensures.commands) in
    let one = one_fits commands old now k n x within is below read fits before in
    omega (arith, one)

pub loop-instrument-preserved : goal.loop-instrument-preserved
loop-instrument-preserved g c =
    let commands = c.commands-instrument-items.result.now in
    let k = c.loop-instrument.instrument-index in
    let old = c.args.rooms.now.items in
    let now = c.loop-instrument.rooms.items in
    let n = c.instrument.inside.0 in
    let x = c.index_mut.result.now in
    let before = c.loop-instrument.invariant in
    let within = c.loop-instrument-test.true in
    let wide = c.requires.wide in
    let named = c.commands-instrument-items.ensures.named k (0, Read) within in
    let command = sym (get_or_read commands k c.loop-instrument-item.result within c.loop-instrument-item.is (0, Read)) in
    let is : (slice_index_or commands k (0, Read)).0 ≡ n = ap (λ (command : ℕ × Verb). command.0) command ∙ sym c.instrument.view_is in
    let below : n < length old = omega (arith, named, is, wide) in
    let read : x ≡ slice_index_or now n 0 = get_or_read now n x (omega (arith, below, before.wide)) c.index_mut.ensures.value 0 in
    added_more commands old now k n x within is below read before
