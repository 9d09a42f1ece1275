use Rattle.bay.proofs.ToldKept.{told_is_kept}
use Rattle.bay.proofs.log_laws.told_by_lines.Goals as goal

pub returns : goal.returns
returns c = told_is_kept
