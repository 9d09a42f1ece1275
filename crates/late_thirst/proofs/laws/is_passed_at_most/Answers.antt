use Rattle.late_thirst.proofs.Overtaken.{meanwhile}
use Rattle.late_thirst.proofs.laws.is_passed_at_most.Goals as goal

pub returns : goal.returns
returns c = meanwhile
