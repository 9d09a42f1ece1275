use Rattle.bay_line.proofs.Waiting as waiting
use Rattle.bay_line.proofs.laws.waits_add_up.Goals as goal

pub returns : goal.returns
returns c = waiting.waits_add_up
