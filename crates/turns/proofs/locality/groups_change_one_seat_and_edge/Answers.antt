use Rattle.turns.proofs.Groups.{groups_change_one_seat_and_edge}
use Rattle.turns.proofs.locality.groups_change_one_seat_and_edge.Goals as goal

pub returns : goal.returns
returns c = groups_change_one_seat_and_edge
