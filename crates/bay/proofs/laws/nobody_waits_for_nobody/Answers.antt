use Rattle.bay.proofs.Keepers.{each_keeper}
use Rattle.bay.proofs.laws.nobody_waits_for_nobody.Goals as goal

pub returns : goal.returns
returns c = each_keeper c.each_lacks_something.ensures
