use Rattle.std.proofs.Common.{List, [], ◌∷◌, ◌++◌, ℕ, ◌+◌, length, Bor, arith, sym, subst, ap, ◌∙◌}
use Rattle.std.specs.Prelude.{map}
use Rattle.std.proofs.lemmas.List.{map-append}
use Rattle.bstr.specs.Text.{lines_of}
use Rattle.arranged_scripts.proofs.Cut.{IsAtBlock, on_to_block, at_job, reads_within}
use Rattle.arranged_scripts.proofs.blocks.behind_job.Goals as goal

pub overflow_add-read : goal.overflow_add-read
overflow_add-read c =
    let done = map (λ (l : Bor (List ℕ)). l.now) c.loop-line.yielded in
    let all = c.loop-line.invariant.all ∙ ap (λ (rest : List (List ℕ)). done ++ rest) c.in-Some.ensures.steps in
    omega (arith, reads_within c.args.text.now done c.in-Some.line.now c.next.new.self c.loop-line.read all c.loop-line.invariant.long)

pub loop-line-preserved : goal.loop-line-preserved
loop-line-preserved c =
    let lines = lines_of c.args.text.now in
    let line = c.in-Some.line.now in
    let now = λ (l : Bor (List ℕ)). l.now in
    let done = map now c.loop-line.yielded in
    let is = subst (λ rest. IsAtBlock lines done rest c.loop-line.read) c.in-Some.ensures.steps c.loop-line.invariant in
    subst (λ ls. IsAtBlock lines ls c.next.new.self (c.loop-line.read + length line))
    (sym (map-append now c.loop-line.yielded (c.in-Some.line ∷ [])))
    (on_to_block lines done line c.next.new.self c.loop-line.read is (sym c.is_job_line.ensures ∙ c.if-is_job_line.false))

pub returns-then-is_job_line : goal.returns-then-is_job_line
returns-then-is_job_line c =
    let lines = lines_of c.args.text.now in
    let line = c.in-Some.line.now in
    let done = map (λ (l : Bor (List ℕ)). l.now) c.loop-line.yielded in
    let is = subst (λ rest. IsAtBlock lines done rest c.loop-line.read) c.in-Some.ensures.steps c.loop-line.invariant in
    let all = c.loop-line.invariant.all ∙ ap (λ (rest : List (List ℕ)). done ++ rest) c.in-Some.ensures.steps in
    record {
      behind = at_job lines done line c.next.new.self c.loop-line.read is (sym c.is_job_line.ensures ∙ c.if-is_job_line.true);
      most = reads_within c.args.text.now done line c.next.new.self c.loop-line.read all c.loop-line.invariant.long;
    }
