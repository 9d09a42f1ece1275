use Rattle.std.proofs.Common.{List, [], ◌∷◌, ◌++◌, ℕ, ◌+◌, length, Bor, arith, sym, subst, ap, ◌∙◌}
use Rattle.std.specs.Prelude.{map}
use Rattle.std.proofs.lemmas.List.{map-append}
use Rattle.bstr.specs.Text.{lines_of}
use Rattle.arranged_scripts.proofs.Cut.{IsLooking, looks_on, looks_anew, found, found_none, reads_within, up_within}
use Rattle.arranged_scripts.proofs.blocks.up_to_job.Goals as goal

pub loop-line-preserved : goal.loop-line-preserved
loop-line-preserved c =
    let lines = lines_of c.args.text.now in
    let line = c.in-Some.line.now in
    let now = λ (l : Bor (List ℕ)). l.now in
    let done = map now c.loop-line.yielded in
    let is = subst (λ rest. IsLooking lines done rest c.loop-line.above c.loop-line.read) c.in-Some.ensures.steps c.loop-line.invariant in
    subst (λ ls. IsLooking lines ls c.next.new.self c.loop-line.above (c.loop-line.read + length line))
    (sym (map-append now c.loop-line.yielded (c.in-Some.line ∷ [])))
    (looks_on lines done line c.next.new.self c.loop-line.above c.loop-line.read is (sym c.is_comment.ensures ∙ c.if-not-is_comment.false))

pub loop-line-preserved-then-not-is_comment : goal.loop-line-preserved-then-not-is_comment
loop-line-preserved-then-not-is_comment c =
    let lines = lines_of c.args.text.now in
    let line = c.in-Some.line.now in
    let now = λ (l : Bor (List ℕ)). l.now in
    let done = map now c.loop-line.yielded in
    let is = subst (λ rest. IsLooking lines done rest c.loop-line.above c.loop-line.read) c.in-Some.ensures.steps c.loop-line.invariant in
    subst (λ ls. IsLooking lines ls c.next.new.self (c.loop-line.read + length line) (c.loop-line.read + length line))
    (sym (map-append now c.loop-line.yielded (c.in-Some.line ∷ [])))
    (looks_anew lines done line c.next.new.self c.loop-line.above c.loop-line.read is
    (sym c.is_job_line.ensures ∙ c.if-is_job_line.false) (sym c.is_comment.ensures ∙ c.if-not-is_comment.true))

pub overflow_add-read : goal.overflow_add-read
overflow_add-read c =
    let done = map (λ (l : Bor (List ℕ)). l.now) c.loop-line.yielded in
    let all = c.loop-line.invariant.all ∙ ap (λ (rest : List (List ℕ)). done ++ rest) c.in-Some.ensures.steps in
    omega (arith, reads_within c.args.text.now done c.in-Some.line.now c.next.new.self c.loop-line.read all c.loop-line.invariant.read_long)

pub returns-then-is_job_line : goal.returns-then-is_job_line
returns-then-is_job_line c =
    let lines = lines_of c.args.text.now in
    let done = map (λ (l : Bor (List ℕ)). l.now) c.loop-line.yielded in
    let is = subst (λ rest. IsLooking lines done rest c.loop-line.above c.loop-line.read) c.in-Some.ensures.steps c.loop-line.invariant in
    let up = found lines done c.in-Some.line.now c.next.new.self c.loop-line.above c.loop-line.read is (sym c.is_job_line.ensures ∙ c.if-is_job_line.true) in
    record {
      up = up;
      most = up_within c.args.text.now c.loop-line.above up;
    }

pub returns : goal.returns
returns c =
    let lines = lines_of c.args.text.now in
    let done = map (λ (l : Bor (List ℕ)). l.now) c.loop-line.yielded in
    let is = subst (λ rest. IsLooking lines done rest c.loop-line.above c.loop-line.read) c.in-None.ensures.steps.0 c.loop-line.invariant in
    let up = found_none lines done c.loop-line.above c.loop-line.read is in
    record {
      up = up;
      most = up_within c.args.text.now c.loop-line.read up;
    }
