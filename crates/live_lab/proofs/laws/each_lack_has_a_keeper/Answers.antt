use Rattle.live_lab.proofs.Lacking as lacking
use Rattle.live_lab.proofs.laws.each_lack_has_a_keeper.Goals as goal

pub returns : goal.returns
returns c = lacking.each_lack_has_a_keeper
