use Rattle.std.proofs.Common.{refl}
use Rattle.std.proofs.lemmas.Bool.{false≢true}
use Rattle.edge_word.proofs.PhaseLemmas.{passed, passes}
use Rattle.edge_word.proofs.phase.PhaseWord.unpack.Goals as goal

pub returns-then-is_phase_word-clause-spelled : goal.returns-then-is_phase_word-clause-spelled
returns-then-is_phase_word-clause-spelled c = passed c.args.word c.ranges.word.fits (c.if-is_phase_word.ensures.0 refl)

pub returns-else-is_phase_word-clause-refused : goal.returns-else-is_phase_word-clause-refused
returns-else-is_phase_word-clause-refused c = λ x h e. false≢true (c.if-is_phase_word.ensures.1 (passes c.args.word x h e))
