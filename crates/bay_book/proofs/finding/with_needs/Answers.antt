use Rattle.std.proofs.Common.{◌∙◌, ◌||◌, ◌&&◌, sym, ap}
use Rattle.bay_book.specs.Moments.{common}
use Rattle.bay_book.proofs.Bits.{common_both, or_false_is}
use Rattle.bay_book.proofs.finding.with_needs.Goals as goal

pub returns-then-is_holding : goal.returns-then-is_holding
returns-then-is_holding c = λ x.
    common_both x c.args.set c.args.ask.needs
    ∙ ap (λ b. common x c.args.set || b && common x c.args.ask.needs) (sym (sym c.is_holding.ensures ∙ c.if-is_holding.true))

pub returns-else-is_holding : goal.returns-else-is_holding
returns-else-is_holding c = λ x. or_false_is (common x c.args.set) _ (common x c.args.ask.needs) (sym c.is_holding.ensures ∙ c.if-is_holding.false)
