use Rattle.std.proofs.Common.{List, [], ◌∷◌, ◌+◌, ℕ, arith, refl, sym, ◌∙◌, subst, Bor}
use Rattle.std.specs.Prelude.{map, Err}
use Rattle.std.proofs.lemmas.List.{map-append}
use Rattle.std.proofs.lemmas.Result.{err_from_is_err_and}
use Rattle.script_reader.specs.Line.{form_of}
use Rattle.script_reader.specs.More.{AnswersMore, TakesMore, no_sessions}
use Rattle.script_reader.proofs.FurtherLines.{IsReadingMore, reads_more, stops_more, ends_more}
use Rattle.script_reader.proofs.ScriptPart.{number_fits}
use Rattle.script_reader.proofs.more.read_sessions.Goals as goal

pub loop-line-init : goal.loop-line-init
loop-line-init g c =
    let plan = c.args.plan.now in
    let j = c.args.job in
    let text = c.args.text.now in
    let all = c.into_iter-line-iterator.ensures.into_iter_gives ∙ c.lines-line-items.ensures.value in
    subst (λ s. IsReadingMore plan j text [] c.into_iter-line-iterator.result 1 s) (sym c.new-reader.ensures)
    (subst (λ rest. IsReadingMore plan j text [] rest 1 no_sessions) (sym all) (record { split = refl; placed = refl; left = refl }))

pub overflow_add-number : goal.overflow_add-number
overflow_add-number g c =
    let done = map (λ (l : Bor (List ℕ)). l.now) c.loop-line.yielded in
    let at = c.loop-line.invariant in
    omega (arith, number_fits c.args.text.now done c.loop-line.line-iterator c.loop-line.number at.split at.placed)

pub loop-line-preserved : goal.loop-line-preserved
loop-line-preserved g c =
    let plan = c.args.plan.now in
    let j = c.args.job in
    let text = c.args.text.now in
    let line = c.in-Some.line.now in
    let done = map (λ (l : Bor (List ℕ)). l.now) c.loop-line.yielded in
    let before = subst (λ rest. IsReadingMore plan j text done rest c.loop-line.number c.loop-line.reader) c.in-Some.ensures.steps c.loop-line.invariant in
    let read = subst (λ r. TakesMore plan j c.loop-line.reader (form_of line) r c.read.new.self) c.in_ok-at_line.ensures c.read.ensures in
    let more = reads_more plan j text line done c.next.new.self c.loop-line.number c.loop-line.reader c.read.new.self c.in_ok-at_line.field-0 before read in
    subst (λ ls. IsReadingMore plan j text ls c.next.new.self (c.loop-line.number + 1) c.read.new.self)
    (sym (map-append (λ (l : Bor (List ℕ)). l.now) c.loop-line.yielded (c.in-Some.line ∷ []))) more

pub returns : goal.returns
returns g c =
    let plan = c.args.plan.now in
    let j = c.args.job in
    let text = c.args.text.now in
    let done = map (λ (l : Bor (List ℕ)). l.now) c.loop-line.yielded in
    let before = subst (λ rest. IsReadingMore plan j text done rest c.loop-line.number c.loop-line.reader) c.in-None.ensures.steps.0 c.loop-line.invariant in
    let ends = ends_more plan j text (λ further. further.items) done c.loop-line.number c.loop-line.reader c.finish.result c.at_line-2.result before c.finish.ensures
    c.at_line-2.ensures in
    record { ok = ends.0; err = ends.1 }

pub returns-in_err-at_line-clause-err : goal.returns-in_err-at_line-clause-err
returns-in_err-at_line-clause-err g c =
    let plan = c.args.plan.now in
    let j = c.args.job in
    let text = c.args.text.now in
    let line = c.in-Some.line.now in
    let done = map (λ (l : Bor (List ℕ)). l.now) c.loop-line.yielded in
    let before = subst (λ rest. IsReadingMore plan j text done rest c.loop-line.number c.loop-line.reader) c.in-Some.ensures.steps c.loop-line.invariant in
    let fault = c.in_err-at_line.field-0.0 in
    let read = subst (λ r. TakesMore plan j c.loop-line.reader (form_of line) r c.read.new.self) c.in_err-at_line.ensures.0 c.read.ensures in
    let bad = stops_more plan j text line done c.next.new.self c.loop-line.number c.loop-line.reader c.read.new.self fault.cause before read in
    let p = err_from_is_err_and c.from_residual.result c.from_residual.ensures.1 in
    rw (p.1, p.2) (subst (λ n. AnswersMore plan j text (Err (record { line = n; cause = fault.cause }))) (sym c.in_err-at_line.ensures.1) bad)
