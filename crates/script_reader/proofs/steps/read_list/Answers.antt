use Rattle.std.proofs.Common.{List, [], ◌∷◌, ◌+◌, ℕ, arith, refl, sym, subst, Bor}
use Rattle.std.specs.Prelude.{map}
use Rattle.std.proofs.lemmas.List.{map-append}
use Rattle.std.proofs.lemmas.Result.{err_from_is_err_and}
use Rattle.script_reader.specs.Script.{text_lines}
use Rattle.script_reader.specs.Steps.{step_in, ReadsStep, RefusesSteps}
use Rattle.script_reader.proofs.StepList.{IsListing, lists, stops, fits}
use Rattle.script_reader.proofs.steps.read_list.Goals as goal

pub loop-line-preserved : goal.loop-line-preserved
loop-line-preserved g c =
    let plan = c.args.plan.now in
    let first = c.args.first in
    let lines = text_lines c.args.text.now in
    let line = c.in-Some.line.now in
    let done = map (λ (l : Bor (List ℕ)). l.now) c.loop-line.yielded in
    let steps = c.loop-line.steps.items in
    let before = subst (λ rest. IsListing plan first lines done rest c.loop-line.number steps) c.in-Some.ensures.steps c.loop-line.invariant in
    let read = subst (λ r. ReadsStep steps c.loop-line.number (step_in plan line) r c.read_step.new.steps.items) c.in_ok-at_line.ensures c.read_step.ensures in
    let more = lists plan first lines line done c.next.new.self c.loop-line.number steps c.read_step.new.steps.items
    (step_in plan line) c.in_ok-at_line.field-0 refl before read in
    subst (λ ls. IsListing plan first lines ls c.next.new.self (c.loop-line.number + 1) c.read_step.new.steps.items)
    (sym (map-append (λ (l : Bor (List ℕ)). l.now) c.loop-line.yielded (c.in-Some.line ∷ []))) more

pub overflow_add-number : goal.overflow_add-number
overflow_add-number g c =
    let plan = c.args.plan.now in
    let first = c.args.first in
    let lines = text_lines c.args.text.now in
    let line = c.in-Some.line.now in
    let done = map (λ (l : Bor (List ℕ)). l.now) c.loop-line.yielded in
    let steps = c.loop-line.steps.items in
    let before = subst (λ rest. IsListing plan first lines done rest c.loop-line.number steps) c.in-Some.ensures.steps c.loop-line.invariant in
    let few = fits plan first lines line done c.next.new.self c.loop-line.number steps before in
    omega (arith, few)

pub returns-in_err-at_line : goal.returns-in_err-at_line
returns-in_err-at_line g c =
    let plan = c.args.plan.now in
    let first = c.args.first in
    let lines = text_lines c.args.text.now in
    let line = c.in-Some.line.now in
    let done = map (λ (l : Bor (List ℕ)). l.now) c.loop-line.yielded in
    let steps = c.loop-line.steps.items in
    let before = subst (λ rest. IsListing plan first lines done rest c.loop-line.number steps) c.in-Some.ensures.steps c.loop-line.invariant in
    let fault = c.in_err-at_line.field-0.0 in
    let read =
    subst (λ r. ReadsStep steps c.loop-line.number (step_in plan line) r c.read_step.new.steps.items) c.in_err-at_line.ensures.0 c.read_step.ensures in
    let bad =
    stops plan first lines line done c.next.new.self c.loop-line.number steps c.read_step.new.steps.items
    (step_in plan line) fault.cause refl before read in
    let p = err_from_is_err_and c.from_residual.result c.from_residual.ensures.1 in
    rw (p.1, p.2) (subst (λ n. RefusesSteps plan first lines (record { line = n; cause = fault.cause })) (sym c.in_err-at_line.ensures.1) bad)
