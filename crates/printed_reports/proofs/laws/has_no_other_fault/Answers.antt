use Rattle.printed_reports.proofs.NoFault.{no_other_fault}
use Rattle.printed_reports.proofs.laws.has_no_other_fault.Goals as goal

pub returns : goal.returns
returns c = no_other_fault
