use Rattle.std.proofs.Common.{sym}
use Rattle.edge_word.proofs.PhaseLemmas.{passed, passes}
use Rattle.edge_word.proofs.phase.PhaseWord.spelled.Goals as goal

pub invariant_of-result : goal.invariant_of-result
invariant_of-result c = passes c.args.word c.requires.0 c.requires.2 (sym c.requires.1)

pub returns : goal.returns
returns c =
    let is = passed c.args.word c.ranges.word.fits (passes c.args.word c.requires.0 c.requires.2 (sym c.requires.1)) in
    record { word = is.0; fits = is.1 }
