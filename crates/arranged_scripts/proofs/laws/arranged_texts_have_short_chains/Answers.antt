use Rattle.arranged_scripts.proofs.Arranged.{short_chains}
use Rattle.arranged_scripts.proofs.laws.arranged_texts_have_short_chains.Goals as goal

pub returns : goal.returns
returns c = short_chains c.one_meaning.ensures.plan c.arranged_chains_are_short.ensures
