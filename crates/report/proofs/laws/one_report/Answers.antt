use Rattle.report.proofs.OneReport.{one_report}
use Rattle.report.proofs.laws.one_report.Goals as goal

pub returns : goal.returns
returns c = one_report
