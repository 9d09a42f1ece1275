use Rattle.std.proofs.Common.{[], ◌∷◌, ◌++◌, arith, refl, sym, ap, ◌∙◌, subst}
use Rattle.std.proofs.lemmas.Result.{MatchResult-weaker, err_from_is_err_and}
use Rattle.script_reader.specs.Line.{form_of}
use Rattle.script_reader.specs.Script.{text_lines, Refuses}
use Rattle.script_reader.specs.State.{ReadsForm, state_of}
use Rattle.script_reader.specs.Steps.{script_part}
use Rattle.script_reader.proofs.ReaderLoop.{starts}
use Rattle.script_reader.proofs.ScriptPart.{IsAt, number_fits, goes_on, fails, rest_behind, rest_none, steps_none, ends_well_at, ends_badly_at}
use Rattle.script_reader.proofs.steps.read_script.Goals as goal

pub loop-line-init : goal.loop-line-init
loop-line-init g c =
    let lines = text_lines c.args.text.now in
    let begun : IsAt lines [] lines 1 (state_of []) = record { split = refl; reading = starts (script_part lines) } in (
      [],
      subst (λ s. IsAt lines [] c.lines-lines.result 1 s) (sym c.new-reader.ensures)
          (subst (λ rest. IsAt lines [] rest 1 (state_of [])) (sym c.lines-lines.ensures.value) begun),
    )

pub end_script-requires-clause-tied : goal.end_script-requires-clause-tied
end_script-requires-clause-tied g c = c.loop-line.invariant.1.reading.tied

pub end_script-requires-clause-number : goal.end_script-requires-clause-number
end_script-requires-clause-number g c =
    let at = c.loop-line.invariant.1 in
    omega (arith, number_fits c.args.text.now c.loop-line.invariant.0 c.loop-line.lines c.loop-line.number at.split at.reading.placed)

pub read-requires : goal.read-requires
read-requires g c = c.loop-line.invariant.1.reading.tied

pub overflow_add-number : goal.overflow_add-number
overflow_add-number g c =
    let at = c.loop-line.invariant.1 in
    omega (arith, number_fits c.args.text.now c.loop-line.invariant.0 c.loop-line.lines c.loop-line.number at.split at.reading.placed)

pub end_script-requires-2-clause-tied : goal.end_script-requires-2-clause-tied
end_script-requires-2-clause-tied g c = c.loop-line.invariant.1.reading.tied

pub end_script-requires-2-clause-number : goal.end_script-requires-2-clause-number
end_script-requires-2-clause-number g c =
    let at = c.loop-line.invariant.1 in
    omega (arith, number_fits c.args.text.now c.loop-line.invariant.0 c.loop-line.lines c.loop-line.number at.split at.reading.placed)

pub returns-then-is_steps_line : goal.returns-then-is_steps_line
returns-then-is_steps_line g c =
    let lines = text_lines c.args.text.now in
    let line = c.in-Some.line.now in
    let done = c.loop-line.invariant.0 in
    let before : IsAt lines done (line ∷ c.next.new.self) c.loop-line.number c.loop-line.reader =
    subst (λ l. IsAt lines done l c.loop-line.number c.loop-line.reader) c.in-Some.ensures.steps c.loop-line.invariant.1 in
    let is = sym c.is_steps_line.ensures ∙ c.if-is_steps_line.true in
    let rest = rest_behind lines line done c.next.new.self c.loop-line.number c.loop-line.reader before is in
    let none = steps_none line c.next.new.self is in
    MatchResult-weaker c.end_script.result c.end_script.ensures
    (λ part h. (
      ends_well_at lines done (line ∷ c.next.new.self) c.loop-line.number c.loop-line.reader part.plan before none h.0,
      ap text_lines h.1 ∙ c.as_bytes.ensures ∙ rest.rest_is,
      h.2 ∙ rest.first_is,
    ))
    (λ fault h. subst (λ n. Refuses (script_part lines) (record { line = n; cause = fault.cause })) (sym h.1)
    (ends_badly_at lines done (line ∷ c.next.new.self) c.loop-line.number c.loop-line.reader fault.cause before none h.0))

pub returns-in_err-at_line : goal.returns-in_err-at_line
returns-in_err-at_line g c =
    let lines = text_lines c.args.text.now in
    let line = c.in-Some.line.now in
    let done = c.loop-line.invariant.0 in
    let before : IsAt lines done (line ∷ c.next.new.self) c.loop-line.number c.loop-line.reader =
    subst (λ l. IsAt lines done l c.loop-line.number c.loop-line.reader) c.in-Some.ensures.steps c.loop-line.invariant.1 in
    let isnt = sym c.is_steps_line.ensures ∙ c.if-is_steps_line.false in
    let fault = c.in_err-at_line.field-0.0 in
    let read = subst (λ r. ReadsForm c.loop-line.reader (form_of line) r c.read.new.self) c.in_err-at_line.ensures.0 c.read.ensures in
    let bad = fails lines line done c.next.new.self c.loop-line.number c.loop-line.reader c.read.new.self fault.cause before isnt read in
    let p = err_from_is_err_and c.from_residual.result c.from_residual.ensures.1 in
    rw (p.1, p.2) (subst (λ n. Refuses (script_part lines) (record { line = n; cause = fault.cause })) (sym c.in_err-at_line.ensures.1) bad)

pub loop-line-preserved : goal.loop-line-preserved
loop-line-preserved g c =
    let lines = text_lines c.args.text.now in
    let line = c.in-Some.line.now in
    let done = c.loop-line.invariant.0 in
    let before : IsAt lines done (line ∷ c.next.new.self) c.loop-line.number c.loop-line.reader =
    subst (λ l. IsAt lines done l c.loop-line.number c.loop-line.reader) c.in-Some.ensures.steps c.loop-line.invariant.1 in
    let isnt = sym c.is_steps_line.ensures ∙ c.if-is_steps_line.false in
    let read = subst (λ r. ReadsForm c.loop-line.reader (form_of line) r c.read.new.self) c.in_ok-at_line.ensures c.read.ensures in
    (done ++ line ∷ [], goes_on lines line done c.next.new.self c.loop-line.number c.loop-line.reader c.read.new.self c.in_ok-at_line.field-0 before isnt read)

pub returns : goal.returns
returns g c =
    let lines = text_lines c.args.text.now in
    let done = c.loop-line.invariant.0 in
    let before : IsAt lines done [] c.loop-line.number c.loop-line.reader =
    subst (λ l. IsAt lines done l c.loop-line.number c.loop-line.reader) c.in_default.ensures.steps.0 c.loop-line.invariant.1 in
    let rest = rest_none lines done c.loop-line.number c.loop-line.reader before in
    MatchResult-weaker c.end_script-2.result c.end_script-2.ensures
    (λ part h. (
      ends_well_at lines done [] c.loop-line.number c.loop-line.reader part.plan before refl h.0,
      ap text_lines h.1 ∙ c.as_bytes-2.ensures ∙ c.in_default.ensures.steps.1 ∙ rest.rest_is,
      h.2 ∙ rest.first_is,
    ))
    (λ fault h. subst (λ n. Refuses (script_part lines) (record { line = n; cause = fault.cause })) (sym h.1)
    (ends_badly_at lines done [] c.loop-line.number c.loop-line.reader fault.cause before refl h.0))
