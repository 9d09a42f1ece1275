use Rattle.bay_book.proofs.Told as told
use Rattle.bay_book.proofs.laws.tells_once.Goals as goal

pub returns : goal.returns
returns c = told.tells_once
