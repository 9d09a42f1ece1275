-- so many turns so far, and before each the desk did not see all jobs retired
use Rattle.std.specs.Prelude.{◌≡◌}
use Rattle.session_layer.specs.Grown.{TookTurns}
use Rattle.desk_user.specs.Use.{TookBeforeAll}
use Rattle.desk_user.proofs.turn.turns_until_all_retired.Given as goal

abbrev pub invariant-loop-number : goal.invariant-loop-number
invariant-loop-number g l = TookTurns l._number l.fn.desk l.desk × TookBeforeAll l._number l.fn.desk l.desk × (l.pause.how ≡ l.fn.pause.how)
