use Rattle.std.proofs.Common.{◌∙◌, sym, below_more}
use Rattle.bay_book.proofs.finding.first_over_limit.Goals as goal

pub loop-place-preserved : goal.loop-place-preserved
loop-place-preserved c = below_more _ _ c.loop-place.invariant (sym c.is_over_limit.ensures ∙ c.if-is_over_limit.false)
