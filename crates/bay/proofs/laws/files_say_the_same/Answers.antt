use Rattle.bay.proofs.TurnLaws as laws
use Rattle.bay.proofs.laws.files_say_the_same.Goals as goal

pub returns : goal.returns
returns c = laws.files_say_the_same
