use Rattle.edge_word.proofs.WordBits.{state_of-flipped}
use Rattle.edge_word.proofs.edge.EdgeWord.flipped.Goals as goal

pub invariant_of-result : goal.invariant_of-result
invariant_of-result c =
    (state_of-flipped c.self.inside.word _ c.args.self c.args.flips c.self.invariant c.self.view_is c.requires.bottles c.requires.tokens c.mask_of.ensures).0

pub returns : goal.returns
returns c =
    (state_of-flipped c.self.inside.word _ c.args.self c.args.flips c.self.invariant c.self.view_is c.requires.bottles c.requires.tokens c.mask_of.ensures).1
