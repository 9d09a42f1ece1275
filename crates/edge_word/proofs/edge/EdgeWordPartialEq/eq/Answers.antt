use Rattle.std.proofs.Common.{rules}
use Rattle.edge_word.proofs.WordBits.{word_behind}
use Rattle.edge_word.proofs.edge.EdgeWordPartialEq.eq.Goals as goal

pub returns : goal.returns
returns c = search (rules, word_behind)
