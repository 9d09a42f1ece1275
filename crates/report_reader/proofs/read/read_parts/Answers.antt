use Rattle.std.proofs.Common.{ℕ, ◌+◌, List, [], take, drop, get_or, suc, length, refl, sym, ap, ◌∙◌, subst, arith}
use Rattle.std.specs.Prelude.{map, ◌==◌}
use Rattle.std.specs.Borrow.{Bor}
use Rattle.std.proofs.lemmas.Bool.{false≢true}
use Rattle.std.proofs.lemmas.List.{length-take}
use Rattle.std.proofs.lemmas.Result.{err_from_is_err_and}
use Rattle.report_reader.specs.Reading.{line_in}
use Rattle.report_reader.specs.State.{Reads}
use Rattle.report_reader.proofs.ReadingLoop.{IsReading, starts, reads, stops, fails, next_part, all_parts, is_nothing, left_over, answers}
use Rattle.report_reader.proofs.read.read_parts.Goals as goal

abbrev nothing : Bor (List ℕ)
nothing = record { ref_ptr = (0, 0); now = [] }

pub loop-part-init : goal.loop-part-init
loop-part-init g c = starts c.new-reader.result c.new-reader.ensures

pub overflow_add-number : goal.overflow_add-number
overflow_add-number g c =
    let all = map (λ (p : Bor (List ℕ)). p.now) c.args.parts.now in
    omega (arith, c.loop-part.invariant.placed, length-take c.loop-part.part-index all, c.loop-part-test.true)

pub loop-part-preserved : goal.loop-part-preserved
loop-part-preserved g c =
    let k = c.loop-part.part-index in
    let all = map (λ (p : Bor (List ℕ)). p.now) c.args.parts.now in
    let part = (get_or c.args.parts.now k nothing).now in
    let next = next_part c.args.parts.now k nothing c.loop-part-test.true in
    let read = subst (λ r. Reads c.loop-part.reader (line_in part) r c.read.new.self) c.in_ok-at_line.ensures c.read.ensures in
    subst (λ l. IsReading l (c.loop-part.number + 1) c.read.new.self) (sym next.0)
    (reads (take k all) part c.loop-part.number c.loop-part.reader c.read.new.self (line_in part) c.in_ok-at_line.field-0 refl c.loop-part.invariant read)

pub returns-in_err-at_line : goal.returns-in_err-at_line
returns-in_err-at_line g c =
    let k = c.loop-part.part-index in
    let all = map (λ (p : Bor (List ℕ)). p.now) c.args.parts.now in
    let part = (get_or c.args.parts.now k nothing).now in
    let next = next_part c.args.parts.now k nothing c.loop-part-test.true in
    let fault = c.in_err-at_line.field-0.0 in
    let read = subst (λ r. Reads c.loop-part.reader (line_in part) r c.read.new.self) c.in_err-at_line.ensures.0 c.read.ensures in
    let bad = stops all (take k all) part (drop (suc k) all) c.loop-part.number c.loop-part.reader c.read.new.self
    (line_in part) fault.cause refl next.1 c.loop-part.invariant read in
    let p = err_from_is_err_and c.from_residual.result c.from_residual.ensures.1 in
    rw (p.1, p.2) (fails all c.args.tail.now c.loop-part.number fault c.in_err-at_line.ensures.1 bad)

pub returns-then-not-is_empty : goal.returns-then-not-is_empty
returns-then-not-is_empty g c =
    let all = map (λ (p : Bor (List ℕ)). p.now) c.args.parts.now in
    let read = subst (λ l. IsReading l c.loop-part.number c.loop-part.reader)
    (all_parts c.args.parts.now c.loop-part.part-index (omega arith)) c.loop-part.invariant in
    left_over all c.args.tail.now c.loop-part.number c.loop-part.reader read
    (λ none. false≢true (c.if-not-is_empty.ensures ∙ ap (λ (l : List ℕ). length l == 0) none))

pub returns : goal.returns
returns g c =
    let all = map (λ (p : Bor (List ℕ)). p.now) c.args.parts.now in
    let read = subst (λ l. IsReading l c.loop-part.number c.loop-part.reader)
    (all_parts c.args.parts.now c.loop-part.part-index (omega arith)) c.loop-part.invariant in
    let none = is_nothing c.args.tail.now (sym c.if-not-is_empty.ensures) in
    answers all c.args.tail.now c.loop-part.number c.loop-part.reader c.finish.result c.at_line-2.result none read c.finish.ensures c.at_line-2.ensures
