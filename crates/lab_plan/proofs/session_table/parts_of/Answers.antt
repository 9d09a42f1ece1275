use Rattle.std.proofs.Common.{◌≡◌, ℕ, ◌+◌, ◌<◌, arith, sym, refl, ap, length-set, slice_index_or, ◌∙◌}
use Rattle.std.proofs.lemmas.List.{get_or_read, take_all}
use Rattle.lab_plan.specs.declared.verb.Verb.{Verb}
use Rattle.lab_plan.specs.declared.verb.Verb.TheVariants.{Read}
use Rattle.lab_plan.specs.LabPlan.{count_on}
use Rattle.lab_plan.proofs.Alike.{read_alike}
use Rattle.lab_plan.proofs.Parts.{parts_more}
use Rattle.lab_plan.proofs.session_table.parts_of.Goals as goal

pub loop-instrument-init : goal.loop-instrument-init
loop-instrument-init c = record { parts = λ i below. read_alike 56 i 0; numbered = refl }

pub loop-instrument-preserved : goal.loop-instrument-preserved
loop-instrument-preserved c =
    let k = c.loop-instrument.instrument-index in
    let commands = c.args.commands.now in
    let before = c.loop-instrument.invariant in
    let parts = c.loop-instrument.parts in
    let n = c.instrument.inside.0 in
    let read = sym (get_or_read commands k c.loop-instrument-item.result c.loop-instrument-test.true c.loop-instrument-item.is (0, Read)) in
    let is : (slice_index_or commands k (0, Read)).0 ≡ n = ap (λ (command : ℕ × Verb). command.0) read ∙ sym c.instrument.view_is in
    let number = c.requires.numbered k (0, Read) c.loop-instrument-test.true in
    let below : n < 56 = omega (arith, number, is) in
    let new : ℕ = slice_index_or parts n 0 + 1 in
    record {
      parts = parts_more commands parts k n new c.loop-instrument-test.true is below before.numbered before.parts refl;
      numbered = length-set parts n new ∙ before.numbered;
    }

pub returns-clause-length : goal.returns-clause-length
returns-clause-length c = c.loop-instrument.invariant.numbered

pub returns-clause-parts : goal.returns-clause-parts
returns-clause-parts c i below =
    c.loop-instrument.invariant.parts i below ∙ ap (count_on i) (take_all c.loop-instrument.instrument-index c.args.commands.now c.loop-instrument-test.false)
