use Rattle.std.proofs.Common.{◌≡◌, ◌∙◌, ap, arith}
use Rattle.edge_word.specs.Phases.{phase_word_of, phase_of}
use Rattle.edge_word.proofs.PhaseLemmas.{dining_code-lt, drinking_code-lt, phase_of-phase_word_of}
use Rattle.edge_word.proofs.phase.PhaseWord.new.Goals as goal

pub returns : goal.returns
unfolding phase_word_of
returns c =
    let phase = c.args.phase in
    let same : _ ≡ phase_word_of phase =
    omega (arith, c.code_of_drinking.ensures, c.code_of_dining.ensures, drinking_code-lt phase.drinking, dining_code-lt phase.dining, c.requires.fits) in
    ap phase_of same ∙ phase_of-phase_word_of phase (record { session_fits = c.requires.fits; position_fits = omega arith })
