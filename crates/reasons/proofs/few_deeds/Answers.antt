use Rattle.reasons.proofs.LawProofs.{few_deeds}
use Rattle.reasons.proofs.few_deeds.Goals as goal

pub returns : goal.returns
returns c = few_deeds
