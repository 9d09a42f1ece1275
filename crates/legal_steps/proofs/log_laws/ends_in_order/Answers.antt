use Rattle.legal_steps.proofs.LogLawProofs.{ends_in_order}
use Rattle.legal_steps.proofs.log_laws.ends_in_order.Goals as goal

pub returns : goal.returns
returns c = ends_in_order
