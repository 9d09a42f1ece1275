use Rattle.bay_line.proofs.FirstCome as first_come
use Rattle.bay_line.proofs.laws.is_first_come_first_served.Goals as goal

pub returns : goal.returns
returns c = first_come.is_first_come_first_served
