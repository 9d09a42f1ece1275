use Rattle.bay.proofs.Waited.{each_reason}
use Rattle.bay.proofs.laws.nobody_waits_for_nothing.Goals as goal

pub returns : goal.returns
returns c = each_reason c.each_reason_ends.ensures
