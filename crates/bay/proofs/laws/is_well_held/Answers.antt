use Rattle.bay.proofs.Calls.{well_held}
use Rattle.bay.proofs.laws.is_well_held.Goals as goal

pub returns : goal.returns
returns c = well_held c.args.bay.now.room c.look.ensures.room
