use Rattle.bay.proofs.Stays.{stays_written}
use Rattle.bay.proofs.log_laws.stays_written.Goals as goal

pub returns : goal.returns
returns c = stays_written
