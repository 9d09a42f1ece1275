use Rattle.bay_book.proofs.Apart as apart
use Rattle.bay_book.proofs.laws.limit_is_to_come.Goals as goal

pub returns : goal.returns
returns c = apart.limit_is_to_come
