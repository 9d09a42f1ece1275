use Rattle.std.proofs.Common.{arith, inl}
use Rattle.std.proofs.lemmas.Result.{err_from_is_err_and}
use Rattle.script_reader.specs.Script.{text_lines}
use Rattle.script_reader.proofs.ScriptPart.{room, meant, refused}
use Rattle.script_reader.proofs.OwnSteps.{own_steps}
use Rattle.script_reader.proofs.steps.read_steps.Goals as goal

pub read_list-requires : goal.read_list-requires
read_list-requires g c =
    let part = c.in_ok-plan.field-0 in
    let h = c.in_ok-plan.ensures in
    let fits = room c.args.text.now (text_lines part.rest.now) part.first h.1 h.2 in
    omega (arith, fits)

pub returns-in_err-plan-clause-meaning : goal.returns-in_err-plan-clause-meaning
returns-in_err-plan-clause-meaning g c =
    let p = err_from_is_err_and c.from_residual.result c.from_residual.ensures.1 in rw (p.1, p.2) (inl c.in_err-plan.ensures)

pub returns-in_err-steps-clause-meaning : goal.returns-in_err-steps-clause-meaning
returns-in_err-steps-clause-meaning g c =
    let part = c.in_ok-plan.field-0 in
    let h = c.in_ok-plan.ensures in
    let p = err_from_is_err_and c.from_residual-in_err-steps.result c.from_residual-in_err-steps.ensures.1 in
    rw (p.1, p.2) (refused c.args.text.now part.plan (text_lines part.rest.now) part.first c.in_err-steps.field-0.0 h.0 h.1 h.2 c.in_err-steps.ensures)

pub returns-clause-meaning : goal.returns-clause-meaning
returns-clause-meaning g c =
    let part = c.in_ok-plan.field-0 in
    let h = c.in_ok-plan.ensures in
    meant c.args.text.now part.plan (text_lines part.rest.now) part.first c.in_ok-steps.steps.items h.0 h.1 h.2 c.in_ok-steps.ensures

pub returns-clause-own : goal.returns-clause-own
returns-clause-own g c =
    own_steps c.in_ok-plan.field-0.plan c.in_ok-plan.field-0.first (text_lines c.in_ok-plan.field-0.rest.now) c.in_ok-steps.steps.items c.in_ok-steps.ensures.0
