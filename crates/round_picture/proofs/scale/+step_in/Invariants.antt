use Rattle.std.proofs.Common.{length}
use Rattle.round_picture.proofs.scale.+step_in.Given as goal

abbrev pub decreases-step_in : goal.decreases-step_in
decreases-step_in l = length l.powers.now
