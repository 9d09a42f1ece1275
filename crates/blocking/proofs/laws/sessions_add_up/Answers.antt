use Rattle.blocking.proofs.AddUp.{sessions_add_up}
use Rattle.blocking.proofs.laws.sessions_add_up.Goals as goal

pub returns : goal.returns
returns c = sessions_add_up
