use Rattle.std.proofs.Common.{◌++◌, [], ◌∷◌, sym, ◌∙◌, arith}
use Rattle.std.proofs.lemmas.List.FromFn.{map-range_with_len_more}
use Rattle.blocking.specs.Tallying.{fresh_tally}
use Rattle.blocking.proofs.keepers.fresh_tallies.Goals as goal

pub loop-job-preserved : goal.loop-job-preserved
loop-job-preserved g c =
    let f = fresh_tally c.args.plan.now in let n = c.loop-job.job in
    c.in_ok-push.ensures.items ∙ ((λ i. c.loop-job.invariant i ++ c.in_ok-new.ensures i ∷ []) ∙ sym (map-range_with_len_more f 0 n n (omega arith)))
