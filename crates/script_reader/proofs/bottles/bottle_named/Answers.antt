use Rattle.std.proofs.Common.{[], ℕ, ◌<◌, Bool, arith, sym, ap, ◌∙◌, length}
use Rattle.std.specs.Prelude.{slice_index_or}
use Rattle.std.specs.Str.{bytes_eq}
use Rattle.lab_plan.specs.LabPlan.{bottles}
use Rattle.script_reader.proofs.Places.{position_found, position_none}
use Rattle.script_reader.proofs.bottles.bottle_named.Goals as goal

pub returns-then-is_same_name : goal.returns-then-is_same_name
returns-then-is_same_name g c =
    let plan = c.args.plan.now in
    let name = c.args.name.now in
    let test : ℕ → Bool = λ i. bytes_eq name (slice_index_or plan.instruments i []) in
    let inside : c.loop-bottle.bottle < length (bottles plan c.args.edge) = omega arith in
    let here = ap test (sym c.instrument_of-instrument.ensures)
    ∙ sym (ap (bytes_eq name) c.instrument_name.ensures.value) ∙ sym c.is_same_name.ensures ∙ c.if-is_same_name.true in
    (position_found test (bottles plan c.args.edge) c.loop-bottle.bottle 0 inside c.loop-bottle.invariant here, omega arith)

pub returns : goal.returns
returns g c =
    let plan = c.args.plan.now in
    let name = c.args.name.now in
    position_none (λ i. bytes_eq name (slice_index_or plan.instruments i []))
    (bottles plan c.args.edge) 0 (λ k below. c.loop-bottle.invariant k (omega (arith, below)))
