use Rattle.bay.proofs.TurnLaws as laws
use Rattle.bay.proofs.laws.turns_keep.Goals as goal

pub returns : goal.returns
returns c = laws.turns_keep c.next_is_let_in.ensures
