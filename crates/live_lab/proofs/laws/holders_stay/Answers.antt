use Rattle.live_lab.proofs.Staying as staying
use Rattle.live_lab.proofs.laws.holders_stay.Goals as goal

pub returns : goal.returns
returns c = staying.holders_stay
