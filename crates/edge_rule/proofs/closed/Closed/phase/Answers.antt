use Rattle.edge_rule.proofs.ClosedWords.{phase_word_there, phase_spelled, phase_read}
use Rattle.edge_rule.proofs.closed.Closed.phase.Goals as goal

pub word-word-requires : goal.word-word-requires
word-word-requires g0 c =
    (phase_word_there c.self.inside _ c.self.view_is c.self.invariant c.args.job _ c.phase_place.ensures c.requires, c.self.invariant.full.0)

pub unpacked_phase-requires : goal.unpacked_phase-requires
unpacked_phase-requires g0 c = phase_spelled c.self.inside _ c.self.view_is c.self.invariant c.args.job _ _ c.phase_place.ensures c.requires c.word-word.ensures

pub returns : goal.returns
returns g0 c = record {
  phase = phase_read c.self.inside _ c.self.view_is c.self.invariant c.args.job _ _ c.unpacked_phase.result
      c.phase_place.ensures c.word-word.ensures c.unpacked_phase.ensures.word c.unpacked_phase.ensures.fits;
  fits = c.unpacked_phase.ensures.fits;
}
