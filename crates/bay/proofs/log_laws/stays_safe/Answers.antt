use Rattle.bay.proofs.SafeLines.{stays_safe}
use Rattle.bay.proofs.log_laws.stays_safe.Goals as goal

pub returns : goal.returns
returns c = stays_safe
