use Rattle.measured_orders.proofs.OneMeasure.{one_measure}
use Rattle.measured_orders.proofs.laws.one_measure.Goals as goal

pub returns : goal.returns
returns c = one_measure
