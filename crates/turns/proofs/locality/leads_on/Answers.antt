use Rattle.turns.proofs.Parts.{leads_on}
use Rattle.turns.proofs.locality.leads_on.Goals as goal

pub returns : goal.returns
returns c = leads_on
