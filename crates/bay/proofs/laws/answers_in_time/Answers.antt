use Rattle.bay.proofs.Calls.{in_time}
use Rattle.bay.proofs.laws.answers_in_time.Goals as goal

pub returns : goal.returns
returns c = in_time
