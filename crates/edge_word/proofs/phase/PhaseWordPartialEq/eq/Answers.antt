use Rattle.std.proofs.Common.{rules}
use Rattle.edge_word.proofs.PhaseLemmas.{phase_behind}
use Rattle.edge_word.proofs.phase.PhaseWordPartialEq.eq.Goals as goal

pub returns : goal.returns
returns c = search (rules, phase_behind)
