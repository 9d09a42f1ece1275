use Rattle.std.proofs.Common.{◌∙◌, ◌||◌, ◌&&◌, sym, ap}
use Rattle.bay_line.specs.Wishes.{common}
use Rattle.bay_line.proofs.Kept.{common_both, or_false_is}
use Rattle.bay_line.proofs.first.kept_with.Goals as goal

pub returns-then-is_kept : goal.returns-then-is_kept
returns-then-is_kept c = λ x.
    common_both x c.args.kept c.args.wish.needs
    ∙ ap (λ b. common x c.args.kept || b && common x c.args.wish.needs) (sym (sym c.is_kept.ensures ∙ c.if-is_kept.true))

pub returns-else-is_kept : goal.returns-else-is_kept
returns-else-is_kept c = λ x. or_false_is (common x c.args.kept) _ (common x c.args.wish.needs) (sym c.is_kept.ensures ∙ c.if-is_kept.false)
