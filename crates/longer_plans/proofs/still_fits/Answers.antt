use Rattle.longer_plans.proofs.States.{still_fits}
use Rattle.longer_plans.proofs.still_fits.Goals as goal

pub returns : goal.returns
returns c = still_fits
