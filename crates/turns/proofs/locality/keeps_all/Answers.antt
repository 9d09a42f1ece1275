use Rattle.turns.proofs.Changed.{keeps_all}
use Rattle.turns.proofs.locality.keeps_all.Goals as goal

pub returns : goal.returns
returns c = keeps_all
