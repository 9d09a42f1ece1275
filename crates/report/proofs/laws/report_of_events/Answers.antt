use Rattle.report.proofs.EventReport.{report_of_events}
use Rattle.report.proofs.laws.report_of_events.Goals as goal

pub returns : goal.returns
returns c = report_of_events
