use Rattle.std.proofs.Common.{◌≡◌, ◌++◌, map, take, drop}
use Rattle.blocking.specs.Owing.{cleared}
use Rattle.blocking.proofs.sides.clear.Given as goal

-- so many are cleared
abbrev pub invariant-loop-at : goal.invariant-loop-at
invariant-loop-at l = l.blocks ≡ map cleared (take l.at l.fn.blocks) ++ drop l.at l.fn.blocks
