use Rattle.std.proofs.Common.{sym, ◌∙◌}
use Rattle.edge_word.specs.WordCodec.{word_of-state_of}
use Rattle.edge_word.proofs.WordBits.{IsEdgeWord-tested, tested}
use Rattle.edge_word.proofs.edge.EdgeWord.unpack.Goals as goal

pub invariant_of-result : goal.invariant_of-result
invariant_of-result c = (IsEdgeWord-tested c.args.word c.args.bottles c.requires.few (sym c.stray_bits_of.ensures ∙ c.if-stray_bits_of-eq0.true)).0

pub returns-then-stray_bits_of-eq0-clause-spelled : goal.returns-then-stray_bits_of-eq0-clause-spelled
returns-then-stray_bits_of-eq0-clause-spelled c =
    let is = IsEdgeWord-tested c.args.word c.args.bottles c.requires.few (sym c.stray_bits_of.ensures ∙ c.if-stray_bits_of-eq0.true) in
    (word_of-state_of c.args.word is.0, is.1)

pub returns-else-stray_bits_of-eq0-clause-refused : goal.returns-else-stray_bits_of-eq0-clause-refused
returns-else-stray_bits_of-eq0-clause-refused c =
    λ x h e. c.if-stray_bits_of-eq0.false (c.stray_bits_of.ensures ∙ tested x c.args.word c.args.bottles c.requires.few h e)
