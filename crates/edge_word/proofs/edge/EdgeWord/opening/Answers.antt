use Rattle.edge_word.proofs.OpeningWords.{opening_word}
use Rattle.edge_word.proofs.edge.EdgeWord.opening.Goals as goal

pub invariant_of-result : goal.invariant_of-result
invariant_of-result c = (opening_word c.args.bottles c.requires.few).0

pub returns : goal.returns
returns c = (opening_word c.args.bottles c.requires.few).1
