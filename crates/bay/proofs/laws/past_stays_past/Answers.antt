use Rattle.bay.proofs.Past as past
use Rattle.bay.proofs.laws.past_stays_past.Goals as goal

pub returns : goal.returns
returns c = past.past_stays_past
