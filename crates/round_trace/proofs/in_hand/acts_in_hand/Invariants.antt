use Rattle.std.proofs.Common.{◌≡◌}
use Rattle.round_trace.specs.InHand.{acts_below}
use Rattle.round_trace.proofs.in_hand.acts_in_hand.Given as goal

abbrev pub invariant-loop-job : goal.invariant-loop-job
invariant-loop-job g l = l.acts.items ≡ acts_below l.world.state l.job
