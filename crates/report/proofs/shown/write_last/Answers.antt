use Rattle.std.proofs.Common.{sym, ap}
use Rattle.report.specs.Report.{last_line}
use Rattle.report.proofs.Prefixes.{writes_same}
use Rattle.report.proofs.shown.write_last.Goals as goal

pub returns-else-is_finished : goal.returns-else-is_finished
returns-else-is_finished g c = writes_same _ _ _ _ _ _ _ (ap last_line (sym c.if-is_finished.false)) c.offer-else-is_finished.ensures
