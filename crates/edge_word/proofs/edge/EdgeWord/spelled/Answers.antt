use Rattle.std.proofs.Common.{subst, sym}
use Rattle.edge_word.specs.Words.{IsEdgeWord}
use Rattle.edge_word.specs.WordCodec.{word_of-state_of}
use Rattle.edge_word.proofs.WordLemmas.{IsEdgeWord-word_of}
use Rattle.edge_word.proofs.WordBits.{IsOfBottles-state_of}
use Rattle.edge_word.proofs.edge.EdgeWord.spelled.Goals as goal

pub invariant_of-result : goal.invariant_of-result
invariant_of-result c = subst IsEdgeWord (sym c.requires.1) (IsEdgeWord-word_of c.requires.0 c.requires.2)

pub returns : goal.returns
returns c =
    let is = invariant_of-result c in
    record { word = word_of-state_of c.args.word is; fits = IsOfBottles-state_of c.args.word is }
