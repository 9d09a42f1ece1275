use Rattle.bay_book.proofs.Told as told
use Rattle.bay_book.proofs.laws.over_is_last.Goals as goal

pub returns : goal.returns
returns c = told.over_is_last
