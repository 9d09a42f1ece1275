-- so many turns so far, and before none of them had the job come so far
use Rattle.std.specs.Prelude.{◌≡◌}
use Rattle.session_layer.specs.Grown.{TookTurns}
use Rattle.desk_user.specs.Use.{TookBefore}
use Rattle.desk_user.proofs.turn.turns_until.Given as goal

abbrev pub invariant-loop-number : goal.invariant-loop-number
invariant-loop-number g l = TookTurns l._number l.fn.desk l.desk × TookBefore l.until l._number l.fn.desk l.desk × (l.pause.how ≡ l.fn.pause.how)
