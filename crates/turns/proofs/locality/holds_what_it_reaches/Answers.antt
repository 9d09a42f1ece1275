use Rattle.turns.proofs.Reached.{holds_what_it_reaches}
use Rattle.turns.proofs.locality.holds_what_it_reaches.Goals as goal

pub returns : goal.returns
returns c = holds_what_it_reaches
