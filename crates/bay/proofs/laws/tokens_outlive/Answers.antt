use Rattle.bay.proofs.Outlive as outlive
use Rattle.bay.proofs.laws.tokens_outlive.Goals as goal

pub returns : goal.returns
returns c = outlive.tokens_outlive c.args.bay.now c.look.ensures c.cut_lines_are_read.ensures c.holds_at_the_cut.ensures
