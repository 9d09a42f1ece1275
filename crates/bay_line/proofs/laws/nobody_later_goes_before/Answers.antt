use Rattle.bay_line.proofs.LaterOnes as later_ones
use Rattle.bay_line.proofs.laws.nobody_later_goes_before.Goals as goal

pub returns : goal.returns
returns c = later_ones.nobody_later_goes_before
