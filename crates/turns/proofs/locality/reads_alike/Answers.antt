use Rattle.turns.proofs.Reading.{reads_alike}
use Rattle.turns.proofs.locality.reads_alike.Goals as goal

pub returns : goal.returns
returns c = reads_alike
