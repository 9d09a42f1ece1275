use Rattle.std.proofs.Common.{◌≡◌, map, take}
use Rattle.block_lines.specs.Text.{block_at}
use Rattle.block_lines.proofs.largest.first_three.Given as goal

-- so many are there, or all
abbrev pub invariant-loop-position : goal.invariant-loop-position
invariant-loop-position g l = l.few.items ≡ map (block_at l.blocks) (take l.position l.order)
