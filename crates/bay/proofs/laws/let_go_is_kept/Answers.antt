use Rattle.bay.proofs.Past as past
use Rattle.bay.proofs.laws.let_go_is_kept.Goals as goal

pub returns : goal.returns
returns c = past.let_go_is_kept c.args.bay.now c.look.ensures c.cut_lines_are_read.ensures
