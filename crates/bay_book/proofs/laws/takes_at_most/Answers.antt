use Rattle.bay_book.proofs.Apart as apart
use Rattle.bay_book.proofs.laws.takes_at_most.Goals as goal

pub returns : goal.returns
returns c = apart.takes_at_most
