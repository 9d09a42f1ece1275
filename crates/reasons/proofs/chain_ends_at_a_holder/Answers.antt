use Rattle.reasons.proofs.LawProofs.{chain_ends_at_a_holder}
use Rattle.reasons.proofs.chain_ends_at_a_holder.Goals as goal

pub returns : goal.returns
returns c = chain_ends_at_a_holder
