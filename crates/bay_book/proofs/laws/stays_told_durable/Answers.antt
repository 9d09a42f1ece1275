use Rattle.bay_book.proofs.Told as told
use Rattle.bay_book.proofs.laws.stays_told_durable.Goals as goal

pub returns : goal.returns
returns c = told.stays_told_durable
