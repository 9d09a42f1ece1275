use Rattle.bay_line.proofs.Chain as chain
use Rattle.bay_line.proofs.laws.each_reason_ends.Goals as goal

pub returns : goal.returns
returns c = chain.each_reason_ends
