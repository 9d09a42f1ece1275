use Rattle.std.proofs.Common.{◌≡◌, ℕ, ◌<◌, slice_index_or, length, arith}
use Rattle.std.proofs.lemmas.List.{get_or_default}
use borrow.Author.Count.{below_more}
use Rattle.arranging.proofs.colour_count.count_of.Goals as goal

-- src/colour_count.rt
pub loop-colour-preserved : goal.loop-colour-preserved
loop-colour-preserved c =
    let xs = c.args.colours.now in
    let at = c.loop-colour.colour-index in
    let here : at < length xs = c.loop-colour-test.true in
    let more = c.max-count.ensures in
    let same : (d : ℕ) → slice_index_or xs at d ≡ slice_index_or xs at 0 = λ d. get_or_default xs at d 0 here in (
      λ k d below. below_more (λ i. slice_index_or xs i d < c.max-count.result) at
          (λ i under. let old = c.loop-colour.invariant.0 i d under in omega (arith, old, more))
          (let is = same d in omega (arith, is, more)) k below,
      λ n all.
          let old = c.loop-colour.invariant.1 n (λ k d under. all k d (omega (arith, under))) in
          let last = all at 0 (omega arith) in
          omega (arith, old, last, more),
    )
