use Rattle.turns.proofs.Changed.{changes_one_seat}
use Rattle.turns.proofs.locality.changes_one_seat.Goals as goal

pub returns : goal.returns
returns c = changes_one_seat
