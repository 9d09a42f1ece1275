use Rattle.bay.proofs.Calls.{written_in_time}
use Rattle.bay.proofs.laws.written_is_in_time.Goals as goal

pub returns : goal.returns
returns c = written_in_time
