use Rattle.measured_orders.proofs.Picked.{best_is_no_worse}
use Rattle.measured_orders.proofs.laws.best_is_no_worse.Goals as goal

pub returns : goal.returns
returns c = best_is_no_worse c.one_meaning.ensures.plan c.one_measure.ensures
