use Rattle.std.proofs.Common.{◌≡◌, ◌+◌, ℕ, List, length, drop, sym, ap, subst, ◌∙◌, arith, Some}
use Rattle.std.specs.Prelude.{◌==◌, vec_len}
use Rattle.std.specs.List.{position}
use Rattle.bay_log.specs.declared.line.Line.{Line}
use Rattle.bay_log.specs.Bodies.{is_line_feed}
use Rattle.bay_log.specs.Reads.{IsFault}
use Rattle.bay_log.proofs.Whole.{Reads, rest_whole, none_is, read_more, read_fault, read_end}
use Rattle.bay_log.proofs.reading.read.Goals as goal

pub returns-in_default-2-clause-fault : goal.returns-in_default-2-clause-fault
returns-in_default-2-clause-fault c =
    let bytes : List ℕ = c.args.bytes.now in
    let n : ℕ = c.loop-end.used in
    let up : position is_line_feed (drop n bytes) ≡ Some c.in-Some.end =
    ap (position is_line_feed) (sym (rest_whole bytes n)) ∙ (sym c.line_end.ensures ∙ c.in-Some.is) in
    let lines : List Line = c.loop-end.lines.items in
    let many : vec_len c.loop-end.lines ≡ length lines = omega (arith, c.loop-end.lines.ok) in
    subst (λ (k : ℕ). IsFault bytes (k + 1)) (sym (c.len.ensures ∙ many))
    (read_fault bytes lines n c.loop-end.sum c.is_empty.result c.in-Some.end c.loop-end.invariant
    (none_is lines c.is_empty.result (c.is_empty.ensures ∙ ap (λ (k : ℕ). k == 0) many)) up (sym c.in_ok-next.ensures.of ∙ c.in_default-2.is))

pub loop-end-preserved : goal.loop-end-preserved
loop-end-preserved c =
    let bytes : List ℕ = c.args.bytes.now in
    let n : ℕ = c.loop-end.used in
    let up : position is_line_feed (drop n bytes) ≡ Some c.in-Some.end =
    ap (position is_line_feed) (sym (rest_whole bytes n)) ∙ (sym c.line_end.ensures ∙ c.in-Some.is) in
    let next = c.in-Some-2.next in
    let lines : List Line = c.loop-end.lines.items in
    let many : vec_len c.loop-end.lines ≡ length lines = omega (arith, c.loop-end.lines.ok) in
    let more = read_more bytes lines n c.loop-end.sum c.is_empty.result c.in-Some.end next.0 next.1 c.loop-end.invariant
    (none_is lines c.is_empty.result (c.is_empty.ensures ∙ ap (λ (k : ℕ). k == 0) many)) up (sym c.in_ok-next.ensures.of ∙ c.in-Some-2.is) (rw c.in-Some-2.is at c.in_ok-next.ensures.fits) in
    subst (λ (l : List Line). Reads bytes l (n + (c.in-Some.end + 1)) next.1) (sym c.in_ok-push.ensures.items) more

pub returns-clause-lines : goal.returns-clause-lines
returns-clause-lines c =
    let bytes : List ℕ = c.args.bytes.now in
    let n : ℕ = c.loop-end.used in
    read_end bytes (record { lines = c.loop-end.lines; used = n; sum = c.loop-end.sum }) c.loop-end.invariant
    (ap (position is_line_feed) (sym (rest_whole bytes n)) ∙ (sym c.line_end.ensures ∙ c.in_default.is))
