use Rattle.bay.proofs.Heard as heard
use Rattle.bay.proofs.laws.tells_once.Goals as goal

pub returns : goal.returns
returns c = heard.tells_once
