use Rattle.legal_steps.proofs.ReachedLaws.{the_opening_is_acyclic}
use Rattle.legal_steps.proofs.laws.the_opening_is_acyclic.Goals as goal

pub returns : goal.returns
returns c = the_opening_is_acyclic
