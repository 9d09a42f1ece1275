use Rattle.turns.proofs.Resting.{rests_at_no_command}
use Rattle.turns.proofs.locality.rests_at_no_command.Goals as goal

pub returns : goal.returns
returns c = rests_at_no_command
