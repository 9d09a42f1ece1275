use Rattle.turns.proofs.Entries.{has_one_entry_each}
use Rattle.turns.proofs.locality.has_one_entry_each.Goals as goal

pub returns : goal.returns
returns c = has_one_entry_each
