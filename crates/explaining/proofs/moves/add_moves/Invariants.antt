use Rattle.std.proofs.Common.{◌≡◌, ◌++◌, codes, take}
use Rattle.std.specs.List.{flat_map}
use Rattle.explaining.specs.MoveTexts.{move_line}
use Rattle.explaining.proofs.moves.add_moves.Given as goal

abbrev pub invariant-loop-step : goal.invariant-loop-step
invariant-loop-step g l = l.out.items ≡ (l.fn.out.items ++ codes "legal now, besides looks and glances:\n")
    ++ flat_map (move_line l.plan) (take l.step-index l.moves)
