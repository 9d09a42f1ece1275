use Rattle.reasons.proofs.LawProofs.{each_wait_has_a_reason}
use Rattle.reasons.proofs.each_wait_has_a_reason.Goals as goal

pub returns : goal.returns
returns c = each_wait_has_a_reason
