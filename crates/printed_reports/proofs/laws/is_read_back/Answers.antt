use Rattle.printed_reports.proofs.ReportBack.{report_read_back}
use Rattle.printed_reports.proofs.laws.is_read_back.Goals as goal

pub returns : goal.returns
returns c = report_read_back
