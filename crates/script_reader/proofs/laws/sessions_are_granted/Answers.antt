use Rattle.script_reader.proofs.Granted as lemmas
use Rattle.script_reader.proofs.laws.sessions_are_granted.Goals as goal

pub returns : goal.returns
returns c = lemmas.all_granted
