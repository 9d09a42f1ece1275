use Rattle.bay_line.proofs.FirstCome as first_come
use Rattle.bay_line.proofs.laws.is_served_before.Goals as goal

pub returns : goal.returns
returns c = first_come.is_served_before
