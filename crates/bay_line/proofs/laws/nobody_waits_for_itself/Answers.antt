use Rattle.bay_line.proofs.FirstCome as first_come
use Rattle.bay_line.proofs.laws.nobody_waits_for_itself.Goals as goal

pub returns : goal.returns
returns c = first_come.nobody_waits_for_itself
