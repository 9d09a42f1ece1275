use Rattle.std.proofs.Common.{List, [], ◌∷◌, ◌+◌, ℕ, arith, refl, sym, ◌∙◌, subst, Bor}
use Rattle.std.specs.Prelude.{map}
use Rattle.std.proofs.lemmas.List.{map-append}
use Rattle.std.proofs.lemmas.Result.{err_from_is_err_and}
use Rattle.script_reader.specs.Line.{form_of}
use Rattle.script_reader.specs.Script.{text_lines, Refuses}
use Rattle.script_reader.specs.State.{ReadsForm, state_of}
use Rattle.script_reader.proofs.ReaderLoop.{IsReading, starts, reads, stops, answers_at_end}
use Rattle.script_reader.proofs.ScriptPart.{number_fits}
use Rattle.script_reader.proofs.plan.read_plan.Goals as goal

pub loop-line-init : goal.loop-line-init
loop-line-init g c =
    let lines = text_lines c.args.text.now in
    let all = c.into_iter-line-iterator.ensures.into_iter_gives ∙ c.lines-line-items.ensures.value in
    subst (λ s. IsReading lines [] c.into_iter-line-iterator.result 1 s) (sym c.new-reader.ensures)
    (subst (λ rest. IsReading lines [] rest 1 (state_of [])) (sym all) (starts lines))

pub read-requires : goal.read-requires
read-requires g c = c.loop-line.invariant.tied

pub finish-requires : goal.finish-requires
finish-requires g c = c.loop-line.invariant.tied

pub overflow_add-number : goal.overflow_add-number
overflow_add-number g c =
    let done = map (λ (l : Bor (List ℕ)). l.now) c.loop-line.yielded in
    let at = c.loop-line.invariant in
    omega (arith, number_fits c.args.text.now done c.loop-line.line-iterator c.loop-line.number at.split at.placed)

pub loop-line-preserved : goal.loop-line-preserved
loop-line-preserved g c =
    let lines = text_lines c.args.text.now in
    let line = c.in-Some.line.now in
    let done = map (λ (l : Bor (List ℕ)). l.now) c.loop-line.yielded in
    let before = subst (λ rest. IsReading lines done rest c.loop-line.number c.loop-line.reader) c.in-Some.ensures.steps c.loop-line.invariant in
    let read = subst (λ r. ReadsForm c.loop-line.reader (form_of line) r c.read.new.self) c.in_ok-at_line.ensures c.read.ensures in
    let more =
    reads lines line done c.next.new.self c.loop-line.number c.loop-line.reader c.read.new.self (form_of line) c.in_ok-at_line.field-0 refl before read in
    subst (λ ls. IsReading lines ls c.next.new.self (c.loop-line.number + 1) c.read.new.self)
    (sym (map-append (λ (l : Bor (List ℕ)). l.now) c.loop-line.yielded (c.in-Some.line ∷ []))) more

pub returns-in_err-at_line : goal.returns-in_err-at_line
returns-in_err-at_line g c =
    let lines = text_lines c.args.text.now in
    let line = c.in-Some.line.now in
    let done = map (λ (l : Bor (List ℕ)). l.now) c.loop-line.yielded in
    let before = subst (λ rest. IsReading lines done rest c.loop-line.number c.loop-line.reader) c.in-Some.ensures.steps c.loop-line.invariant in
    let fault = c.in_err-at_line.field-0.0 in
    let read = subst (λ r. ReadsForm c.loop-line.reader (form_of line) r c.read.new.self) c.in_err-at_line.ensures.0 c.read.ensures in
    let bad = stops lines line done c.next.new.self c.loop-line.number c.loop-line.reader c.read.new.self (form_of line) fault.cause refl before read in
    let p = err_from_is_err_and c.from_residual.result c.from_residual.ensures.1 in
    rw (p.1, p.2) (subst (λ n. Refuses lines (record { line = n; cause = fault.cause })) (sym c.in_err-at_line.ensures.1) bad)

pub returns : goal.returns
returns g c =
    let lines = text_lines c.args.text.now in
    let done = map (λ (l : Bor (List ℕ)). l.now) c.loop-line.yielded in
    let before = subst (λ rest. IsReading lines done rest c.loop-line.number c.loop-line.reader) c.in-None.ensures.steps.0 c.loop-line.invariant in
    answers_at_end c.args.text.now done c.loop-line.number c.loop-line.reader c.finish.result c.at_line-2.result before c.finish.ensures c.at_line-2.ensures
