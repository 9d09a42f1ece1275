use Rattle.bay.proofs.SafeLines.{given_is_written}
use Rattle.bay.proofs.log_laws.given_is_written.Goals as goal

pub returns : goal.returns
returns c = given_is_written
