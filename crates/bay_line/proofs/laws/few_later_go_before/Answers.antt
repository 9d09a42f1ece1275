use Rattle.bay_line.proofs.LaterOnes as later_ones
use Rattle.bay_line.proofs.laws.few_later_go_before.Goals as goal

pub returns : goal.returns
returns c = later_ones.few_later_go_before
