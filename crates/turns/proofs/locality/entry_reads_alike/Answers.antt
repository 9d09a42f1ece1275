use Rattle.turns.proofs.Reached.{entry_reads_alike}
use Rattle.turns.proofs.locality.entry_reads_alike.Goals as goal

pub returns : goal.returns
returns c = entry_reads_alike
