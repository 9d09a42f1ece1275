use Rattle.std.proofs.Common.{◌≡◌, ◌++◌, map, take, drop}
use Rattle.blocking.specs.Owing.{all_settled, cleared_side}
use Rattle.blocking.proofs.sides.take_counts.Given as goal

-- those of so many are taken
abbrev pub invariant-loop-place : goal.invariant-loop-place
invariant-loop-place g l = record {
  counts : l.blocks.items ≡ all_settled l.plan (take l.place l.fn.sides);
  cleared : l.sides ≡ map (cleared_side l.plan) (take l.place l.fn.sides) ++ drop l.place l.fn.sides;
}
