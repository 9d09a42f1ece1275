use Rattle.bay.proofs.Kept.{told_kept}
use Rattle.bay.proofs.laws.told_is_kept.Goals as goal

pub returns : goal.returns
returns c = told_kept c.args.bay.now c.look.ensures c.cut_lines_are_read.ensures c.holds_at_the_cut.ensures
