use Rattle.bay.proofs.Waited as waited
use Rattle.bay.proofs.laws.numbers_rise.Goals as goal

pub returns : goal.returns
returns c = waited.numbers_rise
