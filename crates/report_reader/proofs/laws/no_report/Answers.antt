use Rattle.report_reader.proofs.NoReport.{no_report}
use Rattle.report_reader.proofs.laws.no_report.Goals as goal

pub returns : goal.returns
returns c = no_report
