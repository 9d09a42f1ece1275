use Rattle.std.proofs.Common.{◌++◌, [], ◌∷◌, sym, ◌∙◌, arith}
use Rattle.std.proofs.lemmas.List.FromFn.{map-range_with_len_more}
use Rattle.block_lines.specs.Sums.{rounds_on}
use Rattle.block_lines.proofs.sums.instrument_rounds.Goals as goal

pub loop-instrument-preserved : goal.loop-instrument-preserved
loop-instrument-preserved g c =
    let f = rounds_on c.args.blocks.now in let n = c.loop-instrument.instrument in
    c.in_ok-push.ensures.items ∙ ((λ i. c.loop-instrument.invariant i ++ c.rounds_on.ensures i ∷ []) ∙ sym (map-range_with_len_more f 0 n n (omega arith)))
