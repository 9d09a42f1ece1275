use Rattle.std.proofs.Common.{codes}
use Rattle.explaining.specs.MoveTexts.{moves_text, move_line}
use Rattle.legal_moves.proofs.Lists.{adds_all}
use Rattle.explaining.proofs.moves.add_moves.Goals as goal

pub returns : goal.returns
unfolding moves_text
returns g c = adds_all (move_line c.args.plan.now) c.args.moves.now c.loop-step.step-index _
    (codes "legal now, besides looks and glances:\n") _ c.loop-step-test.false c.loop-step.invariant
