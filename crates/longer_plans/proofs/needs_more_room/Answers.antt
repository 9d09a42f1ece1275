use Rattle.longer_plans.proofs.Rooms.{needs_more_room}
use Rattle.longer_plans.proofs.needs_more_room.Goals as goal

pub returns : goal.returns
returns c = needs_more_room
