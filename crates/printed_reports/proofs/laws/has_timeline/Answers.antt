use Rattle.printed_reports.proofs.OwnOrder.{has_timeline}
use Rattle.printed_reports.proofs.laws.has_timeline.Goals as goal

pub returns : goal.returns
returns c = has_timeline
