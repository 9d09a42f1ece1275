use Rattle.bay_line.proofs.Lacking as lacking
use Rattle.bay_line.proofs.laws.each_lacks_something.Goals as goal

pub returns : goal.returns
returns c = lacking.each_lacks_something
