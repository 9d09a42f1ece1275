use Rattle.arranged_scripts.proofs.OneCut.{one_cut}
use Rattle.arranged_scripts.proofs.laws.texts_are_cut_in_one_way.Goals as goal

pub returns : goal.returns
returns c = one_cut
