use Rattle.legal_steps.proofs.LogLawProofs.{takes_next_entry}
use Rattle.legal_steps.proofs.log_laws.act_finds_room.Goals as goal

pub returns : goal.returns
returns c = takes_next_entry
