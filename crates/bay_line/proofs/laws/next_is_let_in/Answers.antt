use Rattle.bay_line.proofs.FirstCome as first_come
use Rattle.bay_line.proofs.laws.next_is_let_in.Goals as goal

pub returns : goal.returns
returns c = first_come.next_is_let_in
