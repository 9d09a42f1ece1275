use Rattle.written_steps.proofs.ListsBack.{list_read_back}
use Rattle.written_steps.proofs.laws.list_is_read_back.Goals as goal

pub returns : goal.returns
returns c = list_read_back
