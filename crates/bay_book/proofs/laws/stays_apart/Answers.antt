use Rattle.bay_book.proofs.Apart as apart
use Rattle.bay_book.proofs.laws.stays_apart.Goals as goal

pub returns : goal.returns
returns c = apart.stays_apart
