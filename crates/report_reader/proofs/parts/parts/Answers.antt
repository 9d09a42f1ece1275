use Rattle.std.proofs.Common.{◌≡◌, ℕ, ◌+◌, ◌-◌, List, ◌∷◌, ◌++◌, length, take, drop, map, sym, ap, ◌∙◌, arith, Bor}
use Rattle.std.specs.Prelude.{◌==◌}
use Rattle.std.specs.List.{slice_split}
use Rattle.std.proofs.lemmas.Grind.{common_steps}
use Rattle.std.proofs.lemmas.List.{map_push, take_rest}
use Rattle.report_reader.proofs.Cuts.{cut, uncut, one_more}
use Rattle.report_reader.proofs.parts.parts.Goals as goal

abbrev now : Bor (List ℕ) → List ℕ
now part = part.now

pub loop-end-preserved : goal.loop-end-preserved
loop-end-preserved g c =
    let p = λ (b : ℕ). b == c.args.at in
    let done = c.loop-end.parts.items in
    let rest = c.loop-end.rest.now in
    let n = c.in-Some.end in
    let more = take (length rest - (n + 1)) (drop (n + 1) rest) in
    let short = c.loop-end.invariant.1 in
    let same : more ≡ drop (n + 1) rest = take_rest rest (n + 1) in (
      ap (λ l. map now l ++ slice_split p more) c.in_ok-push.ensures.items ∙ one_more done _ (slice_split p more)
          ∙ ap (λ l. map now done ++ take n rest ∷ slice_split p l) same ∙ ap (λ l. map now done ++ l) (sym (cut p rest n c.in-Some.ensures))
          ∙ c.loop-end.invariant.0,
      grind (arith, common_steps),
    )

pub returns-clause-parts : goal.returns-clause-parts
returns-clause-parts g c =
    let p = λ (b : ℕ). b == c.args.at in
    let done = c.loop-end.parts.items in
    let rest = c.loop-end.rest.now in
    ap (map now) c.in_ok-push-2.ensures.items ∙ map_push now done _ ∙ ap (λ l. map now done ++ l) (sym (uncut p rest c.in_default.ensures))
    ∙ c.loop-end.invariant.0
