use Rattle.std.proofs.Common.{subst}
use Rattle.arranged_scripts.specs.Arranged.{IsNoScript}
use Rattle.measured_orders.proofs.trial.as_it_is.Goals as goal

pub returns-in_default-clause-none : goal.returns-in_default-clause-none
returns-in_default-clause-none g c = subst IsNoScript c.deref.ensures.value (rw c.in_default.is at c.in_ok-read.ensures)
