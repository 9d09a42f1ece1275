use Rattle.bay_log.proofs.Changed.{changed_line}
use Rattle.bay_log.proofs.laws.changed_line_is_refused.Goals as goal

pub returns : goal.returns
returns c = changed_line
